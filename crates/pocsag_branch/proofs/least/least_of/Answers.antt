use Rattle.pocsag_branch.proofs.Prelude.{slice_index}
use Rattle.pocsag_branch.proofs.LeastBounds.{least_is_least}
use Rattle.pocsag_branch.proofs.least.least_of.Goals as goal

pub returns-in-Ok-clause-least : goal.returns-in-Ok-clause-least
returns-in-Ok-clause-least c =
    least_is_least c.args.classes.now c.loop-choice.batches c.loop-choice.set (slice_index c.in-Ok.choice.early) c.loop-choice.invariant.0
    (rw c.all_limits.ensures.value at c.in-Ok.ensures.admitted)
