use Rattle.pocsag_plan.proofs.Prelude.{◌≡◌, ◌+◌, ◌<◌, ◌≤◌, drop, HasClasses, frame_idles}
use Rattle.pocsag_plan.proofs.FrameRooms.{room_from}
use Rattle.pocsag_plan.proofs.frames.room_left.Given as goal

-- the idles so far, and those of the steps that are left, are all
abbrev pub invariant-loop-step : goal.invariant-loop-step
invariant-loop-step l =
    (l.room + room_from l.frame l.place (drop l.step-index l.steps) ≡ frame_idles l.frame l.steps)
    × HasClasses (drop l.step-index l.steps) × (l.place < 16) × (l.room ≤ l.step-index)
