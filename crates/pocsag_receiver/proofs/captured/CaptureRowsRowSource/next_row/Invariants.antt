use Rattle.pocsag_receiver.proofs.Prelude.{◌≤◌, List, ReceptionStats, AreRowsLeft, CanHandOut, most_rows, Row}
use Rattle.pocsag_receiver.proofs.captured.CaptureRowsRowSource.next_row.Given as goal

abbrev pub invariant-loop-begun : goal.invariant-loop-begun
invariant-loop-begun l = record {
  can : CanHandOut l.self l.self.current;
  left : (rows : List Row) (heard : List ReceptionStats) → AreRowsLeft l.self l.self.current rows heard
      → AreRowsLeft l.initial.self l.initial.self.current rows heard;
  fewer : most_rows l.self ≤ most_rows l.initial.self;
}

abbrev pub decreases-loop-begun : goal.decreases-loop-begun
decreases-loop-begun l = most_rows l.self
