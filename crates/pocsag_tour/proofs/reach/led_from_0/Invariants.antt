use Rattle.pocsag_tour.proofs.Prelude.{◌≡◌, ℕ, ◌-◌, true, slice_index, holds, IsLed}
use Rattle.pocsag_tour.proofs.reach.led_from_0.Given as goal

abbrev pub invariant-loop-set : goal.invariant-loop-set
invariant-loop-set l = record { start : holds l.set 0 ≡ true; led : (q : ℕ) → holds l.set q ≡ true → IsLed (slice_index l.links) q }

abbrev pub decreases-loop-set : goal.decreases-loop-set
decreases-loop-set l = 65536 - l.set
