use Rattle.pocsag_plan.proofs.Prelude.{err_from_is_err_and}
use Rattle.pocsag_plan.proofs.Counted.{has_page}
use Rattle.pocsag_plan.proofs.Explained.{outcome_explained}
use Rattle.pocsag_plan.proofs.plans.counted_plan.Goals as goal

pub outcome_of-requires-clause-pages : goal.outcome_of-requires-clause-pages
outcome_of-requires-clause-pages c =
    has_page c.args.classes.now c.args.search.end c.args.round.now c.requires.counted c.recall_rules.ensures.some

pub completed-requires-clause-of_round : goal.completed-requires-clause-of_round
completed-requires-clause-of_round c =
    record {
      table = c.args.classes.now;
      classes = c.requires.counted;
      of_classes = c.in_ok-outcome.ensures.outcome;
    }

pub returns-in_err-outcome-clause-fault : goal.returns-in_err-outcome-clause-fault
returns-in_err-outcome-clause-fault c =
    let p = err_from_is_err_and c.from_residual.result c.from_residual.ensures.1 in
    rw (p.1, p.2)
    (outcome_explained c.args.classes.now c.args.search c.args.round.now c.in_err-outcome.field-0.0 c.recall_rules.ensures c.requires.counted
    c.requires.limited c.in_err-outcome.ensures.fault)
