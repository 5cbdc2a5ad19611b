use Rattle.pocsag_centre.proofs.Prelude.{ran_streamed}
use Rattle.pocsag_centre.proofs.check.run_check.Goals as goal

pub returns : goal.returns
returns g c = record { ran = ran_streamed _ c.print_verdict.result c.print_verdict.ensures.streams c.end.ensures.done c.end.ensures.fault }
