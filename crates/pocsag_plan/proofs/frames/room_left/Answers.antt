use Rattle.pocsag_plan.proofs.Prelude.{◌+◌, drop, List, Step, frame_idles}
use Rattle.pocsag_plan.proofs.FrameRooms.{class_small, idle_keeps, next_step, run_keeps}
use Rattle.pocsag_plan.proofs.frames.room_left.Goals.{in-Idle, in-Run}
use Rattle.pocsag_plan.proofs.frames.room_left.Goals as goal

pub finish-place-requires : goal.finish-place-requires
finish-place-requires c =
    let next = next_step c.args.steps.now c.loop-step.step-index _ c.loop-step-test.true c.in-Run.is in
    class_small c.in-Run.class c.in-Run.early (drop (c.loop-step.step-index + 1) c.args.steps.now) (rw next at c.loop-step.invariant.1)

pub loop-step-preserved : goal.loop-step-preserved
loop-step-preserved c =
    let steps : List Step = c.args.steps.now in
    let total = frame_idles c.args.frame steps in
    let i = c.loop-step.step-index in
    elim c.match-step.branch [
      | in-Idle w ↦
          rw (w.place-is, w.room-is)
          (idle_keeps c.args.frame total steps i c.loop-step.place c.loop-step.room w.idle_at-room.result c.loop-step-test.true w.in-Idle.is
          w.idle_at-room.ensures.value w.idle_at-room.ensures.bound c.loop-step.invariant)
      | in-Run w ↦
          rw (w.place-is, w.room-is)
          (run_keeps c.args.frame total steps i c.loop-step.place c.loop-step.room w.in-Run.class w.finish-place.result w.in-Run.early
          c.loop-step-test.true w.in-Run.is w.finish-place.ensures.value w.finish-place.ensures.below c.loop-step.invariant)
    ]
