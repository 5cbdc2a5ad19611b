use Rattle.pocsag_receiver.proofs.Prelude.{◌≡◌, length}
use Rattle.pocsag_receiver.proofs.captured.CaptureRows.new.Given as goal

abbrev pub invariant-loop-reception : goal.invariant-loop-reception
invariant-loop-reception l = length l.heard.items ≡ l.reception-index
