use Rattle.pocsag_branch.proofs.Prelude.{◌≡◌, drop, bounds_of, have_open}
use Rattle.pocsag_branch.proofs.unfinished.+unfinished.Given as goal

abbrev pub invariant-any_unfinished-loop-tree : goal.invariant-any_unfinished-loop-tree
invariant-any_unfinished-loop-tree l = have_open (bounds_of (drop l.tree-index l.trees)) ≡ have_open (bounds_of l.trees)
