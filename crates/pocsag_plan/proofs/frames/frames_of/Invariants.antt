use Rattle.pocsag_plan.proofs.Prelude.{◌≡◌, ℕ, ◌<◌, get_or, length, frame_row}
use Rattle.pocsag_plan.proofs.frames.frames_of.Given as goal

-- the frames so far have their numbers
abbrev pub invariant-loop-frame : goal.invariant-loop-frame
invariant-loop-frame l = record {
  long : length l.rooms ≡ 8;
  rows : (k : ℕ) → k < l.frame → get_or l.rooms k (frame_row l.round l.steps 0) ≡ frame_row l.round l.steps k;
}
