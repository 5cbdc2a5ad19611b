use Rattle.pocsag_flow.proofs.Prelude.{◌≡◌, true, false, arith, refl, finish_of, start_of, holds}
use Rattle.pocsag_flow.proofs.Places.{at_first, left_apart, left_before, left_none}
use Rattle.pocsag_flow.proofs.Steps.{entered, left_more, left_same, moved_late, moved_early, pushes_at}
use Rattle.pocsag_flow.proofs.way.+push.Goals as goal
use Rattle.pocsag_flow.proofs.way.+push.Goals.{leave_straight-then-leads_to_room+else-moved-gt0, leave_straight-else-leads_to_room}

pub enter-returns-else-load-cap : goal.enter-returns-else-load-cap
enter-returns-else-load-cap t c =
    record {
      pushes = entered c.args.network.now c.args.search.now
          (record c.args.search.now { reached = c.with_member-search.result }) c.leave.new.search
          c.args.slot c.args.most c.leave.result refl c.with_member-search.ensures.held c.with_member-search.ensures.others c.requires.apart
          (c.with_member-search.ensures.grows c.requires.apart)
          (omega (arith, c.requires.has_room.network.loads c.args.slot c.requires.slot))
          c.leave.ensures.pushes c.leave.ensures.closed;
    }

pub leave_straight-loop-number-init : goal.leave_straight-loop-number-init
leave_straight-loop-number-init t c = record {
  tried = left_none c.args.network.now c.args.search.now c.args.slot;
  most = omega (arith, c.requires.slot);
  at = λ h. at_first c.args.slot c.requires.slot;
}

pub leave-loop-number-init : goal.leave-loop-number-init
leave-loop-number-init t c =
    let none : c.leave_straight-straight.result ≡ 0 = omega arith in
    record {
      tried = left_before c.args.network.now c.args.search.now c.leave_straight-straight.new.search c.args.slot c.requires.slot
          (left_same c.args.network.now c.args.search.now c.args.search.now c.leave_straight-straight.new.search c.args.slot c.args.most
          c.leave_straight-straight.result 0 (left_none c.args.network.now c.args.search.now c.args.slot)
          c.leave_straight-straight.ensures.pushes none);
      most = omega (arith, c.requires.slot);
      at = λ h. at_first c.args.slot c.requires.slot;
    }

pub leave_straight-loop-number-preserved : goal.leave_straight-loop-number-preserved
leave_straight-loop-number-preserved t c = record {
  tried = elim c.if-leads_to_room.branch [
    | leave_straight-then-leads_to_room+else-moved-gt0 w ↦
        let none : w.switch-moved.result ≡ 0 = omega (arith, w.if-moved-gt0.false) in
        rw w.search-is (left_same c.args.network.now c.args.search.now c.loop-number.search w.switch-moved.new.search c.args.slot c.args.most
        w.switch-moved.result 0 c.loop-number.invariant.tried w.switch-moved.ensures.pushes none)
    | leave_straight-else-leads_to_room w ↦ rw w.search-is c.loop-number.invariant.tried
  ];
  most = c.next_at-number.ensures.most;
  at = c.next_at-number.ensures.at;
}

pub leave-loop-number-preserved : goal.leave-loop-number-preserved
leave-loop-number-preserved t c =
    let none : c.switch-moved.result ≡ 0 = omega arith in
    record {
      tried = left_apart c.args.network.now c.args.search.now c.switch-moved.new.search c.args.slot c.loop-number.number _
          (left_more c.args.network.now c.args.search.now c.loop-number.search c.switch-moved.new.search c.args.slot c.args.most
          c.switch-moved.result c.loop-number.number c.loop-number.invariant.tried c.switch-moved.ensures.pushes none
          (c.switch-moved.ensures.leads none)) c.next_at-number.ensures.none;
      most = c.next_at-number.ensures.most;
      at = c.next_at-number.ensures.at;
    }

pub switch-returns-then-not-holds-clause-pushes : goal.switch-returns-then-not-holds-clause-pushes
switch-returns-then-not-holds-clause-pushes t c =
    let at : c.args.slot ≡ start_of c.args.class.number true = cc in
    let apart : holds c.args.search.now.reached (finish_of c.args.class.number true) ≡ false = cc in
    pushes_at _ _ _ _ _ _ _ at
    (moved_late c.args.network.now c.args.search.now c.enter-moved.new.search c.args.class.number c.args.most c.min.result c.enter-moved.result
    c.args.class.known c.requires.has_room.network (rw at at c.requires.reached) apart
    (omega (arith, c.min.ensures)) (omega (arith, c.min.ensures))
    (rw c.finish-to.ensures.value at c.enter-moved.ensures.pushes))

pub switch-returns-then-not-holds-2-clause-pushes : goal.switch-returns-then-not-holds-2-clause-pushes
switch-returns-then-not-holds-2-clause-pushes t c =
    let at : c.args.slot ≡ finish_of c.args.class.number true = cc in
    let apart : holds c.args.search.now.reached (start_of c.args.class.number true) ≡ false = cc in
    pushes_at _ _ _ _ _ _ _ at
    (moved_early c.args.network.now c.args.search.now c.enter-moved-then-not-holds-2.new.search c.args.class.number c.args.most
    c.min-then-not-holds-2.result c.enter-moved-then-not-holds-2.result
    c.args.class.known c.requires.has_room.network (rw at at c.requires.reached) apart
    (omega (arith, c.min-then-not-holds-2.ensures)) (omega (arith, c.min-then-not-holds-2.ensures))
    (rw c.start-from.ensures.value at c.enter-moved-then-not-holds-2.ensures.pushes))
