use Rattle.pocsag_c.proofs.Prelude.{◌≡◌, ℕ, length, drop, ap, sym, ◌∙◌, arith, after_preamble}
use Rattle.pocsag_c.proofs.show.refuse_batches.Goals as goal

pub returns-clause-behind : goal.returns-clause-behind
returns-clause-behind c =
    let after : c.split_at.result.1.now ≡ after_preamble c.args.tx.now =
    c.split_at.ensures.back ∙ ap (λ (k : ℕ). drop k c.args.tx.now) c.preamble_len.ensures.value in
    rw (sym c.in-Some.ensures) (omega (arith, ap length after))
