use Rattle.pocsag_branch.proofs.Prelude.{IfSome, IsNodeKind}
use Rattle.pocsag_branch.proofs.smaller_cuts.smaller_cut.Given as goal

abbrev pub invariant-loop : goal.invariant-loop
invariant-loop l = IfSome l.best (IsNodeKind l.node.classes.now l.node.task l.node.limits)
