use Rattle.pocsag_plan.proofs.Due.{tight}
use Rattle.pocsag_laws.proofs.bound.tight_headlines_are_headlines.Goals as goal

pub returns : goal.returns
returns c = tight
