use Rattle.pocsag_receiver.proofs.Prelude.{ran_streamed}
use Rattle.pocsag_receiver.proofs.hear.run_hear.Goals as goal

pub returns : goal.returns
returns g c = record { ran = ran_streamed _ c.list_heard.result c.list_heard.ensures.streams c.end.ensures.done c.end.ensures.fault }
