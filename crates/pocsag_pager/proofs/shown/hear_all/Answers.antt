use Rattle.pocsag_pager.proofs.Prelude.{ℕ, List, refl, sym, ap, subst, words_of, IfOk-weaker, MatchResult-from_both, OnErr, ShowsSome}
use Rattle.pocsag_pager.proofs.WholeWords.{not_both, shown_at}
use Rattle.pocsag_pager.proofs.shown.hear_all.Goals as goal

pub returns-in_err-batches-clause-repaired : goal.returns-in_err-batches-clause-repaired
returns-in_err-batches-clause-repaired c = λ end T batches R round legal damaged fine.
    let none = c.damage_is_repaired.ensures.whole end T batches R c.args.bytes.now legal damaged in
    let fault = c.in_err-batches.ensures.err in
    absurd (not_both _ _ none fault)

pub returns-clause-repaired : goal.returns-clause-repaired
returns-clause-repaired c = λ end T batches R round legal damaged fine.
    MatchResult-from_both c.hear_batches.result _ _
    (IfOk-weaker c.hear_batches.result _ _
    (λ pages shown. c.damage_is_repaired.ensures.shown end T batches R c.args.bytes.now c.args.address pages.items round legal damaged
    (shown_at _ _ _ _ _ _ (ap words_of (sym c.in_ok-batches.ensures.ok)) (sym c.in_ok-pager.ensures.address) refl shown))
    c.hear_batches.ensures.shown)
    c.hear_batches.ensures.err

pub returns-clause-memory : goal.returns-clause-memory
returns-clause-memory c = λ fine.
    subst (λ (bytes : List ℕ). OnErr c.hear_batches.result (ShowsSome (words_of bytes) c.args.address)) c.in_ok-batches.ensures.ok
    (subst (λ (a : ℕ). OnErr c.hear_batches.result (ShowsSome (words_of c.in_ok-batches.batches.now) a)) c.in_ok-pager.ensures.address
    c.hear_batches.ensures.memory)
