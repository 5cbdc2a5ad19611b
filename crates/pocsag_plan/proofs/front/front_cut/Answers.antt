use Rattle.pocsag_plan.proofs.Prelude.{◌≡◌, ℕ, ◌+◌, ◌-◌, ◌/◌, ◌<◌, ◌≤◌, length, arith, inl, inr, refl, subst, None, err_from_is_err_and, first_round, IsFit, StopsAt}
use Rattle.pocsag_plan.proofs.FrontTries.{cut_of, first_has_page, first_needs, front_explained, spare_fits, spare_front}
use Rattle.pocsag_plan.proofs.front.front_cut.Goals as goal

pub outcome_of-requires-clause-pages : goal.outcome_of-requires-clause-pages
outcome_of-requires-clause-pages c =
    first_has_page c.recount.new.classes c.args.search.end c.args.pages.now 1 c.recount.ensures (omega arith) c.requires.round.some

pub returns-in_err-first-clause-fault : goal.returns-in_err-first-clause-fault
returns-in_err-first-clause-fault c =
    let p = err_from_is_err_and c.from_residual.result c.from_residual.ensures.1 in
    let R = c.args.pages.now in
    let any : 1 ≤ length R = c.requires.round.some in
    rw (p.1, p.2)
    (front_explained c.args.search R c.args.batches 1 c.requires.round c.requires.limited (omega arith) any c.recount.new.classes c.in_err-first.field-0.0
    c.recount.ensures c.in_err-first.ensures.fault (λ stop e at. inl refl))

pub returns-then-first-batches-clause-fault : goal.returns-then-first-batches-clause-fault
returns-then-first-batches-clause-fault c =
    let R = c.args.pages.now in (
      c.requires.limited,
      first_needs c.args.search R c.args.batches c.in_ok-first.first (first_round 1 R c.requires.round (omega arith) c.requires.round.some)
          c.requires.limited
          (record { table = c.recount.new.classes; classes = c.recount.ensures; of_classes = c.in_ok-first.ensures.outcome })
          c.if-first-batches.true,
    )

pub attempt-requires-clause-pages : goal.attempt-requires-clause-pages
attempt-requires-clause-pages c =
    let bounds = c.loop-bounds.bounds in
    first_has_page c.recount-in-loop-bounds.new.classes c.args.search.end c.args.pages.now _ c.recount-in-loop-bounds.ensures
    (omega (arith, c.loop-bounds.invariant.bounds.some)) c.requires.round.some

pub returns-in_err-tried-clause-fault : goal.returns-in_err-tried-clause-fault
returns-in_err-tried-clause-fault c =
    let p = err_from_is_err_and c.from_residual-in_err-tried.result c.from_residual-in_err-tried.ensures.1 in
    let R = c.args.pages.now in
    let bounds = c.loop-bounds.bounds in
    let is = c.loop-bounds.invariant.bounds in
    let n : ℕ = bounds.fitting + (bounds.beyond - bounds.fitting) / 2 in
    let some : 0 < n = omega (arith, is.some) in
    let among : n ≤ length R = omega (arith, is.order, is.few, c.loop-bounds-test.true) in
    rw (p.1, p.2)
    (front_explained c.args.search R c.args.batches n c.requires.round c.requires.limited some among c.recount-in-loop-bounds.new.classes
    c.in_err-tried.field-0.0 c.recount-in-loop-bounds.ensures c.in_err-tried.ensures.fault
    (λ stop e at. inr (inl (subst (StopsAt c.args.batches) e c.in_err-tried.ensures.undecided))))

pub loop-bounds-preserved : goal.loop-bounds-preserved
loop-bounds-preserved c = record {
  bounds = c.narrowed-bounds.ensures.bounds c.args.search c.args.pages.now c.args.batches c.recount-in-loop-bounds.ensures
      c.in_ok-tried.ensures.attempt c.loop-bounds.invariant.bounds;
  among = omega (arith, c.loop-bounds.invariant.bounds.order, c.loop-bounds.invariant.bounds.few, c.loop-bounds-test.true);
  counted = c.recount-in-loop-bounds.ensures;
}

pub returns-in-Some-clause-cut : goal.returns-in-Some-clause-cut
returns-in-Some-clause-cut c =
    let bounds = c.loop-bounds.bounds in
    let is = c.loop-bounds.invariant.bounds in
    let fit = subst (IsFit bounds.classes c.args.search c.args.batches) c.in-Some.is is.fit in
    cut_of c.args.search c.args.pages.now c.args.batches bounds c.in-Some.outcome is c.loop-bounds-test.false fit.0 fit.1

pub outcome_of-requires-2-clause-pages : goal.outcome_of-requires-2-clause-pages
outcome_of-requires-2-clause-pages c =
    let bounds = c.loop-bounds.bounds in
    let is = c.loop-bounds.invariant.bounds in
    first_has_page bounds.classes c.args.search.end c.args.pages.now bounds.fitting is.counted is.some c.requires.round.some

pub returns-in_err-outcome-clause-fault : goal.returns-in_err-outcome-clause-fault
returns-in_err-outcome-clause-fault c =
    let p = err_from_is_err_and c.from_residual-in_err-outcome.result c.from_residual-in_err-outcome.ensures.1 in
    let R = c.args.pages.now in
    let bounds = c.loop-bounds.bounds in
    let is = c.loop-bounds.invariant.bounds in
    let among : bounds.fitting ≤ length R = omega (arith, is.order, is.few) in
    let none : bounds.outcome ≡ None = c.in_default.is in
    let spare = subst (IsFit bounds.classes c.args.search c.args.batches) none is.fit in
    rw (p.1, p.2)
    (front_explained c.args.search R c.args.batches bounds.fitting c.requires.round c.requires.limited is.some among bounds.classes
    c.in_err-outcome.field-0.0 is.counted c.in_err-outcome.ensures.fault
    (λ stop e at. inr (inr (spare_front c.args.search R c.args.batches bounds stop c.requires.round c.requires.limited is
    c.loop-bounds-test.false spare at))))

pub returns-clause-cut : goal.returns-clause-cut
returns-clause-cut c =
    let bounds = c.loop-bounds.bounds in
    let is = c.loop-bounds.invariant.bounds in
    let found = c.in_ok-outcome.ensures.outcome in
    let none : bounds.outcome ≡ None = c.in_default.is in
    let spare = subst (IsFit bounds.classes c.args.search c.args.batches) none is.fit in
    cut_of c.args.search c.args.pages.now c.args.batches bounds c.in_ok-outcome.outcome is c.loop-bounds-test.false found
    (spare_fits bounds.classes c.args.search c.args.batches c.in_ok-outcome.outcome spare found)
