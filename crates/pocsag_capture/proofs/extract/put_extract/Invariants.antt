use Rattle.pocsag_capture.proofs.Prelude.{capture_bits}
use Rattle.pocsag_capture.proofs.Extracts.{IsExtracting}
use Rattle.pocsag_capture.proofs.extract.put_extract.Given as goal

abbrev pub invariant-loop-place : goal.invariant-loop-place
invariant-loop-place l = IsExtracting (capture_bits l.capture) l.reception l.place l.steady l.corrector l.initial.bytes.items l.bytes.items
