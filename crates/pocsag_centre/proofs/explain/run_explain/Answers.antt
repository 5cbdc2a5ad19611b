use Rattle.pocsag_centre.proofs.Prelude.{ran_streamed}
use Rattle.pocsag_centre.proofs.explain.run_explain.Goals as goal

pub returns : goal.returns
returns g c = record { ran = ran_streamed _ c.explain.result c.explain.ensures.streams c.end.ensures.done c.end.ensures.fault }
