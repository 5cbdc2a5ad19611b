use Rattle.pocsag_flow.proofs.Prelude.{◌+◌, ◌-◌, ◌*◌, ◌<◌, ◌≤◌, HasEndAt, Leaves}
use Rattle.pocsag_flow.proofs.way.+push.Given as goal

abbrev pub decreases-enter : goal.decreases-enter
decreases-enter l = 6 * (65536 - l.search.now.reached)

abbrev pub decreases-switch : goal.decreases-switch
decreases-switch l = 6 * (65536 - l.search.now.reached) + 2

abbrev pub decreases-leave_straight : goal.decreases-leave_straight
decreases-leave_straight l = 6 * (65536 - l.search.now.reached) + 4

abbrev pub decreases-leave : goal.decreases-leave
decreases-leave l = 6 * (65536 - l.search.now.reached) + 5

abbrev pub invariant-leave_straight-loop-number : goal.invariant-leave_straight-loop-number
invariant-leave_straight-loop-number l = record {
  tried : Leaves l.network l.fn.search l.search l.slot 0;
  most : l.number ≤ 136;
  at : l.number < 136 → HasEndAt l.number l.slot;
}

abbrev pub decreases-leave_straight-loop-number : goal.decreases-leave_straight-loop-number
decreases-leave_straight-loop-number l = 136 - l.number

abbrev pub invariant-leave-loop-number : goal.invariant-leave-loop-number
invariant-leave-loop-number l = record {
  tried : Leaves l.network l.fn.search l.search l.slot l.number;
  most : l.number ≤ 136;
  at : l.number < 136 → HasEndAt l.number l.slot;
}

abbrev pub decreases-leave-loop-number : goal.decreases-leave-loop-number
decreases-leave-loop-number l = 136 - l.number
