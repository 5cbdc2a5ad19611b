use Rattle.pocsag_slots.proofs.Prelude.{◌≡◌, ◌*◌, ◌^◌, ◌≤◌, cond, slice_index, holds, sum_below}
use Rattle.pocsag_slots.proofs.load.total_cap.Given as goal

abbrev pub invariant-loop-slot : goal.invariant-loop-slot
invariant-loop-slot l =
    (l.total ≡ sum_below l.slot (λ s. cond (holds l.set s) (slice_index l.limits.cap s) 0)) × (l.total ≤ l.slot * 2 ^ 32)
