use Rattle.pocsag_tour.proofs.Prelude.{ℕ, ◌<◌, Bool, slice_index, HasRunOutside}
use Rattle.pocsag_tour.proofs.outside.lies_outside.Given as goal

abbrev pub invariant-loop-class : goal.invariant-loop-class
invariant-loop-class l = (c : ℕ) (e : Bool) → c < l.class → HasRunOutside l.classes (slice_index l.choice.early) l.set c e → ⊥
