use Rattle.pocsag_flow.proofs.Prelude.{◌≡◌, ◌-◌, ◌<◌, arith, refl, slice_index, Network, Progress, load_over}
use Rattle.pocsag_slots.proofs.Members.{held_some}
use Rattle.pocsag_flow.proofs.Ends.{given_few, overload_less, shut_overloads}
use Rattle.pocsag_flow.proofs.choice.move_load.Goals as goal

pub returns-then-moved-eq0-clause-overloads : goal.returns-then-moved-eq0-clause-overloads
returns-then-moved-eq0-clause-overloads c =
    let n : Network = record { classes = c.args.classes; limits = c.args.limits; loads = c.args.counted.now } in
    let before : Progress = record { early = c.args.search.now.early; reached = c.with_member-search.result; end = c.args.slot } in
    let none : c.leave-moved.result ≡ 0 = omega arith in
    rw c.overload_of.ensures.fault
    (shut_overloads load_over n before c.leave-moved.new.search c.args.slot
    (slice_index c.args.counted.now c.args.slot - slice_index c.args.limits.now.cap c.args.slot) c.leave-moved.result
    c.requires.slot c.requires.ordered c.requires.loaded.within
    (c.with_member-search.ensures.alone refl)
    (omega (arith, c.requires.above, c.requires.loaded.loads c.args.slot c.requires.slot))
    c.leave-moved.ensures.pushes none (c.leave-moved.ensures.closed none))

pub returns-then-moved-eq0-clause-set : goal.returns-then-moved-eq0-clause-set
returns-then-moved-eq0-clause-set c =
    rw c.overload_of.ensures.fault
    (held_some c.leave-moved.new.search.reached c.args.slot c.leave-moved.ensures.pushes.marked, c.overload_of.ensures.small)

pub shifted-requires-clause-given : goal.shifted-requires-clause-given
shifted-requires-clause-given c =
    let n : Network = record { classes = c.args.classes; limits = c.args.limits; loads = c.args.counted.now } in
    let some : 0 < c.leave-moved.result = omega arith in
    let few = given_few n (slice_index c.args.search.now.early)
    (slice_index c.leave-moved.new.search.early) c.args.slot c.leave-moved.new.search.end c.leave-moved.result
    c.requires.ordered c.leave-moved.ensures.pushes.within
    (omega (arith, c.requires.above, c.requires.loaded.loads c.args.slot c.requires.slot))
    (c.leave-moved.ensures.pushes.relieved some) in
    omega (arith, few, c.requires.loaded.loads c.leave-moved.new.search.end (c.leave-moved.ensures.pushes.relieved some).to_fits)

pub returns-clause-less : goal.returns-clause-less
returns-clause-less c =
    let n : Network = record { classes = c.args.classes; limits = c.args.limits; loads = c.args.counted.now } in
    let some : 0 < c.leave-moved.result = omega arith in
    overload_less n (slice_index c.args.search.now.early)
    (slice_index c.leave-moved.new.search.early) c.args.slot c.leave-moved.new.search.end c.leave-moved.result
    c.requires.slot some
    (omega (arith, c.requires.above, c.requires.loaded.loads c.args.slot c.requires.slot))
    (c.leave-moved.ensures.pushes.relieved some)
