use Rattle.pocsag_plan.proofs.Prelude.{arith, subst, IsTried}
use Rattle.pocsag_plan.proofs.attempt.FrontBounds.narrowed.Goals as goal

pub returns-in-Exceeds-clause-bounds : goal.returns-in-Exceeds-clause-bounds
returns-in-Exceeds-clause-bounds c = λ search R batches counted tried is.
    let excess = subst (IsTried c.args.classes.now search batches) c.in-Exceeds.is tried in
    record {
      some = is.some;
      order = c.requires.above;
      few = omega (arith, is.few, c.requires.below);
      counted = is.counted;
      fit = is.fit;
      upper = (omega (arith, is.few, c.requires.below), record { table = c.args.classes.now; counted = counted; excess = excess });
    }
