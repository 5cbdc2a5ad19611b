use Rattle.std.specs.Prelude.{◌≡◌}
use Rattle.pocsag_findings.proofs.Prelude.{joined_below, share_of}
use Rattle.pocsag_findings.proofs.judgement.shares_at.Given as goal

-- the shares of the classes so far
abbrev pub invariant-loop-class : goal.invariant-loop-class
invariant-loop-class l = l.found.items ≡ joined_below l.class (share_of l.context.classes.now l.limits l.set)
