use Rattle.std.specs.Prelude.{length}
use Rattle.pocsag_findings.proofs.Prelude.{findings_left, HasAdded}
use Rattle.pocsag_findings.proofs.outline.write_outline.Given as goal

abbrev pub invariant-loop-walk : goal.invariant-loop-walk
invariant-loop-walk g l = HasAdded g.O.Sink l.fn.out l.out

abbrev pub decreases-loop-walk : goal.decreases-loop-walk
decreases-loop-walk g l = length (findings_left l.walk)
