use Rattle.pocsag_centre.proofs.Prelude.{ran_streamed}
use Rattle.pocsag_centre.proofs.plan.run_plan.Goals as goal

pub returns : goal.returns
returns g c = record { ran = ran_streamed _ c.plan_and_print.result c.plan_and_print.ensures.streams c.end.ensures.done c.end.ensures.fault }
