use Rattle.pocsag_capture.proofs.Prelude.{◌+◌, ◌-◌, ◌^◌, ◌<◌, ◌≤◌, capture_bits, behind}
use Rattle.pocsag_capture.proofs.SearchLemmas.{IsAlone}
use Rattle.pocsag_capture.proofs.search.has_other_sync.Given as goal

abbrev pub invariant-loop-place : goal.invariant-loop-place
invariant-loop-place l = record {
  later : behind l.reception - 543 ≤ l.first;
  small : l.first < 2 ^ 60;
  alone : IsAlone (capture_bits l.capture) l.reception (behind l.reception - 543) l.first;
}

abbrev pub decreases-loop-place : goal.decreases-loop-place
decreases-loop-place l = behind l.reception + 32 - l.first
