use Rattle.pocsag_capture.proofs.Prelude.{ℕ, ◌+◌, ◌-◌, ◌*◌, ◌<◌, ◌≤◌, capture_bits, IsBeside}
use Rattle.pocsag_capture.proofs.slip.is_slip.Given as goal

abbrev pub invariant-loop-place : goal.invariant-loop-place
invariant-loop-place l = (place : ℕ) → l.first ≤ place → place < l.place → place < 17 * l.reception.batches
    → IsBeside (capture_bits l.capture) l.reception.polarity l.step (l.reception.bit + 32 * (place - 1))
