use Rattle.pocsag_branch.proofs.Prelude.{arith, at_start}
use Rattle.pocsag_branch.proofs.boundaries.reached_set.Goals as goal

pub invariant_of-result : goal.invariant_of-result
invariant_of-result c = record { zero = (c.reached-members.ensures.exact 0 (omega arith)).1 at_start }
