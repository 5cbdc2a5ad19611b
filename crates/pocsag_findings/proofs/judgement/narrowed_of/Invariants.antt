use Rattle.std.specs.Prelude.{◌≡◌}
use Rattle.pocsag_findings.proofs.Prelude.{joined_below, narrowed_by}
use Rattle.pocsag_findings.proofs.judgement.narrowed_of.Given as goal

-- the classes so far
abbrev pub invariant-loop-number : goal.invariant-loop-number
invariant-loop-number l = l.found.items ≡ joined_below l.number (narrowed_by l.context.classes.now l.limits)
