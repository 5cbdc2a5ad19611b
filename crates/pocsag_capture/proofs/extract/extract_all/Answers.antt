use Rattle.pocsag_capture.proofs.Prelude.{sym, ap, subst, capture_bits, AreReceptions, Reception}
use Rattle.pocsag_capture.proofs.Ends.{extracts_all}
use Rattle.pocsag_capture.proofs.SentBits.{shows_what_was_sent}
use Rattle.pocsag_capture.proofs.extract.extract_all.Goals as goal

pub returns-clause-extracted : goal.returns-clause-extracted
returns-clause-extracted c =
    let same = c.in_ok-put_extract.ensures.same in
    extracts_all c.args.capture.now _ c.in_ok-bytes.bytes.items c.put_extract.new.bytes.items c.in_ok-put_extract.field-0 c.as_slice.result.now
    c.in_ok-bytes.ensures (ap (λ (r : Reception). r.words) same) (ap (λ (r : Reception). r.words_in_front) same) (ap (λ (r : Reception). r.batches) same) c.in_ok-put_extract.ensures.extracted
    c.in_ok-heard.ensures (subst (AreReceptions (capture_bits c.args.capture.now)) (sym c.as_slice.ensures.value) c.in_ok-found.ensures.found)

pub returns-clause-sent : goal.returns-clause-sent
returns-clause-sent c = λ pages sent.
    let extracted = returns-clause-extracted c in
    record {
      pages = extracted.pages;
      among = shows_what_was_sent c.args.capture.now _ pages extracted.pages sent extracted.captured;
      reads = extracted.reads;
    }
