use Rattle.pocsag_receiver.proofs.Prelude.{◌≡◌, ◌/◌, ℕ, List, length, drop, ap, refl, sym, ◌∙◌, arith, Sent, after_preamble, leading}
use Rattle.pocsag_receiver.proofs.Received.{batches_long, passed_on}
use Rattle.pocsag_receiver.proofs.show.refuse_rows.Goals as goal

-- how many batches follow the leading bytes AA
rows_are : (bytes rest codewords : List ℕ) (n batches : ℕ) → n ≡ leading bytes → rest ≡ drop n bytes → batches ≡ length rest / 68
    → (sent : Sent bytes codewords) → batches ≡ sent.batches
rows_are bytes rest codewords n batches count behind is sent =
    let after : rest ≡ after_preamble bytes = behind ∙ ap (λ (k : ℕ). drop k bytes) count in
    let size = batches_long bytes codewords sent in
    omega (arith, ap length after)

pub returns-then-rows-batches-clause-rows : goal.returns-then-rows-batches-clause-rows
returns-then-rows-batches-clause-rows c =
    rw (sym c.in-Some.ensures) (λ batches reads. omega (
      arith,
      rows_are c.args.bytes.now c.split_at.result.1.now reads.reads.codewords c.preamble_len.result _ c.preamble_len.ensures.value
          c.split_at.ensures.back refl reads.reads.sent,
      reads.as_many,
    ))

pub returns-clause-explained : goal.returns-clause-explained
returns-clause-explained c =
    let reading = passed_on _ _ _ _ _ c.map_err.ensures.cases c.map_err.ensures.variant c.in_ok-map_err.was c.judge_bytes.ensures.ok in
    record {
      wanted = sym c.in-Some.ensures;
      reads = record {
        pages = reading.0;
        reads = reading.1;
        as_many =
            sym
            (rows_are c.args.bytes.now c.split_at.result.1.now reading.1.codewords c.preamble_len.result _ c.preamble_len.ensures.value
            c.split_at.ensures.back refl reading.1.sent);
      };
      behind = omega arith;
    }
