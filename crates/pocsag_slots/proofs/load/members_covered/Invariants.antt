use Rattle.pocsag_slots.proofs.Prelude.{◌≡◌, ◌≤◌, covered, sum_over}
use Rattle.pocsag_slots.proofs.load.members_covered.Given as goal

abbrev pub invariant-loop-place : goal.invariant-loop-place
invariant-loop-place l = (l.members ≡ sum_over l.set (covered l.first l.place)) × (l.members ≤ l.place)
