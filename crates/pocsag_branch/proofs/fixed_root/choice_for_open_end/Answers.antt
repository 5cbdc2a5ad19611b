use Rattle.pocsag_branch.proofs.Prelude.{slice_index}
use Rattle.pocsag_words.specs.declared.ending.End.TheVariants.{Open}
use Rattle.pocsag_branch.proofs.TreeEnds.{tour_admitted}
use Rattle.pocsag_branch.proofs.fixed_root.choice_for_open_end.Goals as goal

pub returns-in-Err-Met-clause-choice : goal.returns-in-Err-Met-clause-choice
returns-in-Err-Met-clause-choice c =
    let met = rw c.in-Err-Met.field-0-is at c.in-Err-Met.ensures in
    rw c.into_inner-met.ensures (tour_admitted c.args.classes.now Open c.args.task.batches
    (slice_index c.in-Err-Met.answer.value.choice.early) c.in-Err-Met.answer.value.steps.items
    met.choice met.tour)
