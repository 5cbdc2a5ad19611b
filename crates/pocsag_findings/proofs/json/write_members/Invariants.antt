use Rattle.std.specs.Prelude.{length}
use Rattle.pocsag_findings.proofs.Prelude.{findings_left, HasAdded}
use Rattle.pocsag_findings.proofs.json.write_members.Given as goal

abbrev pub invariant-loop-numbering : goal.invariant-loop-numbering
invariant-loop-numbering g l = HasAdded g.O.Sink l.fn.out l.out

abbrev pub decreases-loop-numbering : goal.decreases-loop-numbering
decreases-loop-numbering g l = length (findings_left l.walk)
