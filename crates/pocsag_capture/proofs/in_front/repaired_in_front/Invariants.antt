use Rattle.pocsag_capture.proofs.Prelude.{capture_bits}
use Rattle.pocsag_capture.proofs.InFront.{IsFrontSoFar}
use Rattle.pocsag_capture.proofs.in_front.repaired_in_front.Given as goal

abbrev pub invariant-loop-front_count : goal.invariant-loop-front_count
invariant-loop-front_count l = IsFrontSoFar (capture_bits l.capture) l.held l.run.polarity l.run.bit l.front_count l.front_errors
