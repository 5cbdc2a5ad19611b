use Rattle.pocsag_capture.proofs.Prelude.{◌⊎◌, ℕ, ◌+◌, ◌-◌, ◌*◌, ◌<◌, ◌≤◌, capture_bits, IsBeside}
use Rattle.pocsag_capture.proofs.in_front.slips_in_front.Given as goal

abbrev pub invariant-loop-nth : goal.invariant-loop-nth
invariant-loop-nth l = (nth : ℕ) → 0 < nth → nth < l.nth → 32 * (nth + 1) ≤ l.run.bit
    → ¬ (IsBeside (capture_bits l.capture) l.run.polarity 31 (l.run.bit - 32 * (nth + 1)) ⊎ IsBeside (capture_bits l.capture) l.run.polarity 33 (l.run.bit - 32 * (nth + 1)))
