use Rattle.pocsag_centre.proofs.Prelude.{refl}
use Rattle.pocsag_centre.proofs.plan.plan_asked.Goals as goal

pub returns-in_ok-plan-in-Fewest-clause-plan : goal.returns-in_ok-plan-in-Fewest-clause-plan
returns-in_ok-plan-in-Fewest-clause-plan c =
    let is = c.in_ok-plan-in-Fewest.ensures in
    record {
      plan_of = is.plan.bounded;
      small = is.small;
      no_worse = record { tight = refl; stopped = tt };
      fewest = λ same. refl;
      shaped = λ same. is.plan.shaped;
    }
