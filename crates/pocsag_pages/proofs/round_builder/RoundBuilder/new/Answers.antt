use Rattle.pocsag_pages.proofs.MarkedRounds.{marked_none}
use Rattle.pocsag_pages.proofs.round_builder.RoundBuilder.new.Goals as goal

pub invariant_of-result : goal.invariant_of-result
invariant_of-result c = rw c.new.ensures.items marked_none
