use Rattle.pocsag_slots.proofs.Prelude.{lt-ltb, ltb-true}
use Rattle.pocsag_slots.proofs.LeastLemmas.{overload_is}
use Rattle.pocsag_slots.proofs.load.overloads.Goals as goal

pub returns : goal.returns
returns c =
    let of = overload_is c.args.classes.now c.args.limits.now c.args.set c.least_load.result c.least_load.ensures.least in
    rw c.total_cap.ensures
    ((λ more. of.0 (ltb-true _ _ more)), (λ all. lt-ltb _ _ (of.1 all)))
