use Rattle.pocsag_plan.proofs.Prelude.{◌≤◌, arith}
use Rattle.pocsag_plan.proofs.Completed.{fallback_few}
use Rattle.pocsag_plan.proofs.outcome.within_one.Goals as goal

pub overflow_add-found : goal.overflow_add-found
overflow_add-found c =
    let few : c.in-Err-SearchLimit.fallback.least ≤ 1760000 =
    fallback_few c.args.classes.now c.args.search.end c.args.search.limit c.in-Err-SearchLimit.field-0 c.in-Err-SearchLimit.fallback
    c.in-Err-SearchLimit.stop c.in-Err-SearchLimit.field-0-is
    c.in-Err-SearchLimit.ensures.fault in
    omega arith
