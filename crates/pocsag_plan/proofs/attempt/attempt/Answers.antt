use Rattle.pocsag_plan.proofs.Prelude.{◌≡◌, arith, false, subst, err_from_is_err_and, bound_tree_of, StopsAt, accepted_closed, accepted_text}
use Rattle.pocsag_plan.proofs.Completed.{most, nodes_few}
use Rattle.pocsag_plan.proofs.FrontTries.{loads_exceed, search_exceeds, stops_at}
use Rattle.pocsag_plan.proofs.attempt.attempt.Goals as goal

pub returns-then-by_loads-batches-2-clause-attempt : goal.returns-then-by_loads-batches-2-clause-attempt
returns-then-by_loads-batches-2-clause-attempt c =
    let by_loads = c.least_certificate-by_loads in
    loads_exceed c.args.classes.now c.args.search c.args.batches by_loads.result by_loads.ensures.end c.if-by_loads-batches-2.true
    by_loads.ensures.accepted by_loads.ensures.text by_loads.ensures.bound

pub returns-clause-attempt : goal.returns-clause-attempt
returns-clause-attempt c =
    let k = c.args.classes.now in
    let end = c.args.search.end in
    let limit = c.args.search.limit in
    let outcome = c.in_ok-outcome.outcome in
    let is = c.in_ok-outcome.ensures.outcome in
    let within = is.within in
    let fallback = most k end limit outcome.bound outcome.found within in
    let few = nodes_few k end limit outcome.bound outcome.found within c.requires.limited
    (accepted_closed k end outcome.bound (bound_tree_of outcome.found.tree) within.accepted) in
    let text = accepted_text false k end outcome.bound (bound_tree_of outcome.found.tree) within.accepted
    (omega (arith, within.at_least)) few in
    search_exceeds k c.args.search c.args.batches outcome c.least_certificate-by_loads.result.batches c.least_certificate-by_loads.ensures.least
    c.if-by_loads-batches-2.false c.if-outcome-batches.false is text

pub returns-in_err-outcome-clause-undecided : goal.returns-in_err-outcome-clause-undecided
returns-in_err-outcome-clause-undecided c =
    let p = err_from_is_err_and c.from_residual.result c.from_residual.ensures.1 in
    let by_loads = c.least_certificate-by_loads in
    let here : by_loads.result.batches ≡ c.args.batches = omega (arith, c.if-by_loads-batches.false, c.if-by_loads-batches-2.false) in
    let e = c.in_err-outcome.field-0.0 in
    rw (p.1, p.2)
    (subst (λ n. StopsAt n e) here
    (stops_at c.args.classes.now c.args.search by_loads.result.batches e by_loads.ensures.least c.in_err-outcome.ensures.fault))
