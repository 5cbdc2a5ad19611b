use Rattle.pocsag_branch.proofs.Prelude.{◌-◌, ◌≤◌, greatest_least, RefusesOneLess}
use Rattle.pocsag_branch.proofs.least.least_of.Given as goal

abbrev pub invariant-loop-choice : goal.invariant-loop-choice
invariant-loop-choice l = RefusesOneLess l.classes l.batches l.set × (l.batches ≤ greatest_least)

abbrev pub decreases-loop-choice : goal.decreases-loop-choice
decreases-loop-choice l = greatest_least - l.batches
