use Rattle.pocsag_centre.proofs.Prelude.{ran_as}
use Rattle.pocsag_centre.proofs.report.run_report.Goals as goal

pub returns : goal.returns
returns g c = record { ran = ran_as _ c.answer_report.ensures.answers c.print_answer.ensures.ran }
