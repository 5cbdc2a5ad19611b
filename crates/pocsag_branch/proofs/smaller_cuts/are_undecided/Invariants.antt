use Rattle.pocsag_branch.proofs.Prelude.{All, take, Falls}
use Rattle.pocsag_branch.proofs.smaller_cuts.are_undecided.Given as goal

abbrev pub invariant-loop-way : goal.invariant-loop-way
invariant-loop-way l = All (Falls l.node.classes.now l.node.task.batches l.node.limits) (take l.way-index l.out)
