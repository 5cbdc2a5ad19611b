use Rattle.pocsag_slots.proofs.Prelude.{◌≡◌, arith, sym, ◌∙◌, ways_across, append-nil, rules, idle_crosses}
use Rattle.pocsag_slots.proofs.WayLemmas.{class_added, classes_few, early_few, joined_none, slot_added, slots_few, ways_allowed}
use Rattle.pocsag_slots.proofs.way.ways.Goals as goal

pub loop-slot-init : goal.loop-slot-init
loop-slot-init c = c.new-found.ensures ∙ sym (joined_none _)

pub push_if-requires : goal.push_if-requires
push_if-requires c = omega (arith, slots_few c.args.set c.loop-slot.slot c.loop-slot.found.items c.loop-slot.invariant)

pub loop-slot-preserved : goal.loop-slot-preserved
unfolding idle_crosses
loop-slot-preserved c =
    slot_added c.args.set c.loop-slot.slot _ c.loop-slot.found.items c.push_if.new.ways.items
    (search rules) c.loop-slot.invariant c.push_if.ensures

pub loop-number-init : goal.loop-number-init
loop-number-init c =
    let all : c.loop-slot.slot ≡ 16 = omega arith in
    rw (c.loop-slot.invariant, all, joined_none) (sym (append-nil _))

pub push_if-requires-in-loop-number : goal.push_if-requires-in-loop-number
push_if-requires-in-loop-number c =
    omega (
      arith,
      classes_few c.args.classes.now c.args.limits.now c.args.set c.loop-number.number c.loop-number.found.items
          c.loop-number.invariant,
    )

pub push_if-requires-in-loop-number-2 : goal.push_if-requires-in-loop-number-2
push_if-requires-in-loop-number-2 c =
    omega (
      arith,
      early_few c.args.classes.now c.args.limits.now c.args.set c.loop-number.number c.is_open_early-early.result
          c.loop-number.found.items c.push_if-in-loop-number.new.ways.items c.loop-number.invariant c.push_if-in-loop-number.ensures,
    )

pub loop-number-preserved : goal.loop-number-preserved
loop-number-preserved c =
    class_added c.args.classes.now c.args.limits.now c.args.set c.loop-number.number c.is_open_early-early.result c.is_open_late-late.result
    c.loop-number.found.items c.push_if-in-loop-number.new.ways.items c.push_if-in-loop-number-2.new.ways.items
    c.is_open_early-early.ensures c.is_open_late-late.ensures c.loop-number.invariant c.push_if-in-loop-number.ensures c.push_if-in-loop-number-2.ensures

across : goal.returns-clause-items
unfolding ways_across
across c =
    let all : c.loop-number.number ≡ 136 = omega arith in
    rw all at c.loop-number.invariant

pub returns-clause-items : goal.returns-clause-items
returns-clause-items c = across c

pub returns-clause-allowed : goal.returns-clause-allowed
returns-clause-allowed c = rw (across c) (ways_allowed c.args.classes.now c.args.limits.now c.args.set)
