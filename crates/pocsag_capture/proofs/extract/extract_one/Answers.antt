use Rattle.pocsag_capture.proofs.Prelude.{sym, subst, capture_bits, AreReceptions}
use Rattle.pocsag_capture.proofs.Ends.{extracts_reception, one_of, receptions_short}
use Rattle.pocsag_capture.proofs.extract.extract_one.Goals as goal

pub put_extract-requires-clause-end : goal.put_extract-requires-clause-end
put_extract-requires-clause-end c =
    (one_of c.as_slice.result.now _ c.in-Some.reception
    (rw c.as_slice.ensures.value (receptions_short c.args.capture.now _ c.in_ok-found.ensures.few c.in_ok-found.ensures.found))
    c.in-Some.ensures.some.1).end

pub returns-clause-extracted : goal.returns-clause-extracted
returns-clause-extracted c =
    let short =
    one_of c.as_slice.result.now _ c.in-Some.reception
    (rw c.as_slice.ensures.value (receptions_short c.args.capture.now _ c.in_ok-found.ensures.few c.in_ok-found.ensures.found))
    c.in-Some.ensures.some.1 in
    record {
      receptions = c.as_slice.result.now;
      found = subst (AreReceptions (capture_bits c.args.capture.now)) (sym c.as_slice.ensures.value) c.in_ok-found.ensures.found;
      counted = c.in-Some.ensures.some.0;
      reception = c.in-Some.reception;
      is = c.in-Some.ensures.some.1;
      told = c.in_ok-heard.heard;
      alone = c.in_ok-from_slice.ensures.items;
      extracts = extracts_reception c.args.capture.now c.in-Some.reception c.in_ok-bytes.bytes.items c.put_extract.new.bytes.items c.in_ok-heard.heard
          c.in_ok-bytes.ensures short.some c.in_ok-heard.ensures.same c.in_ok-heard.ensures.extracted;
    }
