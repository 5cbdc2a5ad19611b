use Rattle.pocsag_branch.specs.Improvements.{IsImprovement}
use Rattle.pocsag_branch.proofs.local_search.step_from.Given as goal

abbrev pub invariant-loop-way : goal.invariant-loop-way
invariant-loop-way l = IsImprovement l.node.classes.now l.node.limits l.best
