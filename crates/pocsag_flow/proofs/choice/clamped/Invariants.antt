use Rattle.pocsag_flow.proofs.Prelude.{◌≡◌, ℕ, ◌<◌, ◌≤◌, length, slice_index}
use Rattle.pocsag_flow.proofs.choice.clamped.Given as goal

abbrev pub invariant-loop-class : goal.invariant-loop-class
invariant-loop-class l =
    (length l.early ≡ 136)
    × ((c : ℕ) → c < l.class → slice_index l.limits.lo c ≤ slice_index l.early c)
    × ((c : ℕ) → c < l.class → slice_index l.early c ≤ slice_index l.limits.hi c)
