use Rattle.pocsag_plan.proofs.Prelude.{List, subst, sym, err_from_is_err_and, Page, IsRound, ExplainsFront}
use Rattle.pocsag_plan.proofs.FrontTries.{front_of, longest_of, outcome_for, why_of}
use Rattle.pocsag_plan.proofs.Unwritten.{limit_taken}
use Rattle.pocsag_plan.proofs.front.longest_front.Goals as goal

pub returns-clause-front : goal.returns-clause-front
returns-clause-front c =
    front_of c.args.search c.args.round _ c.args.batches c.in_ok-count.field-0 c.in-Ok.round c.pages.ensures.round c.pages.ensures.pages
    (limit_taken _ c.args.search.limit c.if-not-is_node_limit.false c.is_node_limit.ensures) c.in_ok-count.ensures.cut (cc c.in-Ok.ensures.first)

pub returns-clause-longest : goal.returns-clause-longest
returns-clause-longest c =
    longest_of c.args.search c.args.round _ c.args.batches c.in_ok-count.field-0 c.in-Ok.round c.pages.ensures.round c.pages.ensures.pages
    (limit_taken _ c.args.search.limit c.if-not-is_node_limit.false c.is_node_limit.ensures) c.in_ok-count.ensures.cut (cc c.in-Ok.ensures.first)

pub returns-clause-why : goal.returns-clause-why
returns-clause-why c =
    why_of c.args.search c.args.round _ c.args.batches c.in_ok-count.field-0 c.in-Ok.round c.pages.ensures.round c.pages.ensures.pages
    (limit_taken _ c.args.search.limit c.if-not-is_node_limit.false c.is_node_limit.ensures) c.in_ok-count.ensures.cut (cc c.in-Ok.ensures.first)

pub front_cut-requires-clause-round : goal.front_cut-requires-clause-round
front_cut-requires-clause-round c = subst IsRound (sym c.pages.ensures.pages) c.pages.ensures.round

pub returns-in_err-count-clause-fault : goal.returns-in_err-count-clause-fault
returns-in_err-count-clause-fault c =
    let p = err_from_is_err_and c.from_residual.result c.from_residual.ensures.1 in
    rw (p.1, p.2)
    (subst (λ (v : List Page). ExplainsFront c.args.search v c.args.batches c.in_err-count.field-0.0) c.pages.ensures.pages
    c.in_err-count.ensures.fault)

pub completed-requires-clause-of_round : goal.completed-requires-clause-of_round
completed-requires-clause-of_round c =
    outcome_for c.args.search c.args.round _ c.args.batches c.in_ok-count.field-0 c.in-Ok.round c.pages.ensures.round c.pages.ensures.pages
    (limit_taken _ c.args.search.limit c.if-not-is_node_limit.false c.is_node_limit.ensures) c.in_ok-count.ensures.cut (cc c.in-Ok.ensures.first)
