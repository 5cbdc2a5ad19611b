use Rattle.std.specs.Prelude.{length}
use Rattle.pocsag_findings.proofs.Prelude.{findings_left}
use Rattle.pocsag_findings.proofs.refuted.find_refused.Given as goal

abbrev pub decreases-loop-walk : goal.decreases-loop-walk
decreases-loop-walk l = length (findings_left l.walk)
