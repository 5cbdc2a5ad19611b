use Rattle.pocsag_capture.proofs.Prelude.{◌+◌, ◌-◌, ◌^◌, ◌<◌, ◌≤◌, capture_bits, IsQuiet}
use Rattle.pocsag_capture.proofs.search.find.Given as goal

abbrev pub invariant-loop-bit : goal.invariant-loop-bit
invariant-loop-bit l = record {
  later : l.first ≤ l.bit;
  small : l.bit < 2 ^ 60;
  quiet : IsQuiet (capture_bits l.capture) l.first l.bit;
}

abbrev pub decreases-loop-bit : goal.decreases-loop-bit
decreases-loop-bit l = l.end + 1 - l.bit
