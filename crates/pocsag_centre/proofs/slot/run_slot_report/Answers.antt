use Rattle.pocsag_centre.proofs.Prelude.{ran_as}
use Rattle.pocsag_centre.proofs.slot.run_slot_report.Goals as goal

pub returns : goal.returns
returns g c = record { ran = ran_as _ c.answer_slot.ensures.answers c.print_answer.ensures.ran }
