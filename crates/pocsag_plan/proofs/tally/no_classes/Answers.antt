use Rattle.pocsag_plan.proofs.Prelude.{[], arith, All-nil, Open, IsShort, none_counted, tables_of}
use Rattle.pocsag_plan.proofs.tally.no_classes.Goals as goal

pub invariant_of-result : goal.invariant_of-result
invariant_of-result c = record { tables = tables_of _ _ Open [] (none_counted Open) (omega arith) (All-nil IsShort) }

pub returns : goal.returns
returns c end = record { count = (none_counted end).each; turns = (none_counted end).each_turns }
