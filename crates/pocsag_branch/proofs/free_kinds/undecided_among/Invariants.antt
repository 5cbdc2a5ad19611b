use Rattle.pocsag_branch.proofs.Prelude.{IfSome, IsNodeKind}
use Rattle.pocsag_branch.proofs.free_kinds.undecided_among.Given as goal

abbrev pub invariant-loop-way : goal.invariant-loop-way
invariant-loop-way l = IfSome l.best (IsNodeKind l.node.classes.now l.node.task l.node.limits)
