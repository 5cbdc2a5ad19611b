use Rattle.pocsag_branch.proofs.Prelude.{◌≡◌, ℕ, ◌<◌, false, class_certain}
use Rattle.pocsag_branch.proofs.child.certain_class.Given as goal

abbrev pub invariant-loop-class : goal.invariant-loop-class
invariant-loop-class l = (c : ℕ) → c < l.class → class_certain l.node.classes.now l.node.limits l.set.members c ≡ false
