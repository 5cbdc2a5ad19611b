use Rattle.pocsag_slots.proofs.Prelude.{◌≡◌, ◌≤◌, cond, holds, sum_below}
use Rattle.pocsag_slots.proofs.set.size.Given as goal

abbrev pub invariant-loop-member : goal.invariant-loop-member
invariant-loop-member l = (l.members ≡ sum_below l.member (λ i. cond (holds l.set i) 1 0)) × (l.members ≤ l.member)
