use Rattle.pocsag_slots.proofs.Prelude.{◌≡◌, ◌*◌, ◌^◌, ◌≤◌, least_of_class, sum_below}
use Rattle.pocsag_slots.proofs.load.least_load.Given as goal

abbrev pub invariant-loop-number : goal.invariant-loop-number
invariant-loop-number l =
    (l.least ≡ sum_below l.number (least_of_class l.classes l.limits l.set)) × (l.least ≤ l.number * 2 ^ 40)
