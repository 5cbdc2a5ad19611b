use Rattle.pocsag_centre.proofs.Prelude.{◌++◌, refl, below_text, plan_text}
use Rattle.pocsag_shell.proofs.Printed.{part_lost}
use Rattle.pocsag_tree.proofs.Taken.{delivers_then, took_first}
use Rattle.pocsag_centre.proofs.plan.print_bounded.Goals as goal

pub returns-in_err-print_plan-clause-delivers : goal.returns-in_err-print_plan-clause-delivers
returns-in_err-print_plan-clause-delivers g c = λ known.
    let bounded = c.args.bounded.now in
    let first = plan_text bounded.plan.pages bounded.plan.batches in
    let second = below_text bounded.plan.batches bounded.bound in
    part_lost c.from_residual.result _ _ (first ++ second) c.from_residual.ensures.0
    (took_first _ _ (first ++ second) first second refl (c.in_err-print_plan.ensures.delivers known).1)

pub returns-clause-delivers : goal.returns-clause-delivers
returns-clause-delivers g c = λ known.
    let bounded = c.args.bounded.now in
    let first = plan_text bounded.plan.pages bounded.plan.batches in
    let second = below_text bounded.plan.batches bounded.bound in
    delivers_then c.print_below.result _ _ _ (first ++ second) first second refl (c.in_ok-print_plan.ensures.delivers known).0
    (c.print_below.ensures.delivers known)
