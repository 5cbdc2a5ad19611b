use Rattle.pocsag_receiver.proofs.Prelude.{◌-◌, List, length, ReceptionStats, AreRowsLeft, CanHandOut, Row}
use Rattle.pocsag_receiver.proofs.captured.CaptureRows.finish.Given as goal

abbrev pub invariant-loop-begun : goal.invariant-loop-begun
invariant-loop-begun l = record {
  can : CanHandOut l.self l.self.current;
  left : (rows : List Row) (heard : List ReceptionStats) → AreRowsLeft l.self l.self.current rows heard
      → (before : List Row) × AreRowsLeft l.initial.self l.initial.self.current before heard;
}

abbrev pub decreases-loop-begun : goal.decreases-loop-begun
decreases-loop-begun l = length l.self.found.now - l.self.place
