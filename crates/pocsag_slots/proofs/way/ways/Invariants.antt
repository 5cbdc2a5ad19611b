use Rattle.pocsag_slots.proofs.Prelude.{◌≡◌, ◌++◌, joined_below, class_ways, slot_ways}
use Rattle.pocsag_slots.proofs.way.ways.Given as goal

abbrev pub invariant-loop-slot : goal.invariant-loop-slot
invariant-loop-slot l = l.found.items ≡ joined_below l.slot (slot_ways l.set)

abbrev pub invariant-loop-number : goal.invariant-loop-number
invariant-loop-number l =
    l.found.items ≡ joined_below 16 (slot_ways l.set) ++ joined_below l.number (class_ways l.classes l.limits l.set)
