use Rattle.pocsag_findings.proofs.Prelude.{map, column_of}
use Rattle.std.specs.Prelude.{◌≡◌}
use Rattle.std.specs.List.{range_with_len}
use Rattle.pocsag_findings.proofs.judgement.columns_at.Given as goal

-- the columns of the slots so far
abbrev pub invariant-loop-slot : goal.invariant-loop-slot
invariant-loop-slot l = l.found.items ≡ map (column_of l.context.classes.now l.limits) (range_with_len 0 l.slot)
