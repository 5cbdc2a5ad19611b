use Rattle.pocsag_capture.proofs.Prelude.{◌-◌, ◌^◌, ◌<◌, capture_bits}
use Rattle.pocsag_capture.proofs.SearchLemmas.{SoFar}
use Rattle.pocsag_capture.proofs.search.receptions.Given as goal

abbrev pub invariant-loop-place : goal.invariant-loop-place
invariant-loop-place l = record {
  small : l.first < 2 ^ 60;
  held_small : l.held < 2 ^ 60;
  so_far : SoFar (capture_bits l.capture) l.first l.held l.found.items;
}

abbrev pub decreases-loop-place : goal.decreases-loop-place
decreases-loop-place l = 2 ^ 60 - l.first
