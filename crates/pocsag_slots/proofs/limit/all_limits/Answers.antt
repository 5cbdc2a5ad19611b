use Rattle.pocsag_slots.proofs.LimitLemmas.{all_ordered}
use Rattle.pocsag_slots.proofs.limit.all_limits.Goals as goal

pub returns-clause-ordered : goal.returns-clause-ordered
returns-clause-ordered c = all_ordered c.args.classes.now c.args.batches
