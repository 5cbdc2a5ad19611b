use Rattle.pocsag_plan.proofs.Prelude.{refl}
use Rattle.pocsag_plan.proofs.Due.{tight_plan}
use Rattle.pocsag_plan.proofs.plans.plan.Goals as goal

pub returns-clause-plan : goal.returns-clause-plan
returns-clause-plan c = tight_plan _ _ _ refl c.in_ok-bounded.ensures.plan
