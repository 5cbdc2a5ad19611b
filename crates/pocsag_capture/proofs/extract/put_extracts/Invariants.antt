use Rattle.pocsag_capture.proofs.Prelude.{take, capture_bits, PutsExtracts}
use Rattle.pocsag_capture.proofs.extract.put_extracts.Given as goal

abbrev pub invariant-loop-reception : goal.invariant-loop-reception
invariant-loop-reception l = PutsExtracts (capture_bits l.capture) (take l.reception-index l.found) l.heard.items l.initial.bytes.items l.bytes.items
