use Rattle.pocsag_capture.proofs.Prelude.{◌⊎◌, ℕ, ◌-◌, ◌*◌, ◌<◌, ◌≤◌, capture_bits, IsSlip}
use Rattle.pocsag_capture.proofs.slip.has_slipped.Given as goal

abbrev pub invariant-loop-place : goal.invariant-loop-place
invariant-loop-place l = (place : ℕ) → 17 * l.reception.batches - 16 ≤ place → place < l.place
    → ¬ (IsSlip (capture_bits l.capture) l.reception 31 place ⊎ IsSlip (capture_bits l.capture) l.reception 33 place)
