use Rattle.pocsag_plan.proofs.Prelude.{refl, arith, err_from_is_err_and}
use Rattle.pocsag_plan.proofs.Explained.{outcome_fault}
use Rattle.pocsag_plan.proofs.outcome.outcome_of.Goals as goal

pub returns-in_err-found-in-Fewest-clause-fault : goal.returns-in_err-found-in-Fewest-clause-fault
returns-in_err-found-in-Fewest-clause-fault c =
    let p = err_from_is_err_and c.from_residual.result c.from_residual.ensures.1 in
    rw (p.1, p.2) (outcome_fault c.args.classes.now c.args.search c.in_err-found-in-Fewest.field-0.0 c.in-Fewest.is c.in_err-found-in-Fewest.ensures.fault)

pub returns-in_ok-found-in-Fewest-clause-outcome : goal.returns-in_ok-found-in-Fewest-clause-outcome
returns-in_ok-found-in-Fewest-clause-outcome c =
    let found = c.in_ok-found-in-Fewest.ensures.found in
    record {
      within = record {
        least = found.least;
        is_least = found.is_least;
        or_one_more = found.or_one_more;
        choice = found.choice;
        tour = found.tour;
        bounded = found.bound;
        at_least = omega arith;
        within_one = omega arith;
        accepted = found.accepted;
        few = found.few;
      };
      stopped = record { tight = refl; at_limit = tt };
      fewest = λ _. refl;
      shaped = λ _. found.shaped;
    }
