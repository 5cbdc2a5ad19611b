use Rattle.pocsag_findings.proofs.Prelude.{◌≡◌, length, findings_left}
use Rattle.pocsag_findings.proofs.walk.Walk.next.Given as goal

-- the levels that were removed had no children left
abbrev pub invariant-loop-level : goal.invariant-loop-level
invariant-loop-level l = findings_left l.self ≡ findings_left l.fn.self

abbrev pub decreases-loop-level : goal.decreases-loop-level
decreases-loop-level l = length l.self.levels.items
