use Rattle.pocsag_receiver.proofs.Prelude.{ran_streamed}
use Rattle.pocsag_receiver.proofs.capture.run_show_capture.Goals as goal

pub returns : goal.returns
returns g c = record { ran = ran_streamed _ c.show_captured.result c.show_captured.ensures.streams c.end.ensures.done c.end.ensures.fault }
