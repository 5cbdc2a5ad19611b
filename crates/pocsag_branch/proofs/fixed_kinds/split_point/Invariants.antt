use Rattle.pocsag_branch.proofs.Prelude.{ℕ, Bool, ◌<◌, slice_index, HasRunOutside}
use Rattle.pocsag_branch.proofs.fixed_kinds.split_point.Given as goal

abbrev pub invariant-loop-class : goal.invariant-loop-class
invariant-loop-class l = (c : ℕ) → c < l.class → (early : Bool) → ¬ HasRunOutside l.node.classes.now (slice_index l.choice.early) l.set.members c early
