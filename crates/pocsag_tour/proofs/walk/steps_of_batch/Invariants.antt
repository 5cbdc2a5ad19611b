use Rattle.pocsag_tour.proofs.Prelude.{◌≡◌, length, step_of, map, take}
use Rattle.pocsag_tour.proofs.walk.steps_of_batch.Given as goal

abbrev pub invariant-loop-place : goal.invariant-loop-place
invariant-loop-place l = record {
  long : length l.piece ≡ 16;
  steps : take l.place l.piece ≡ map step_of (take l.place l.arcs);
}
