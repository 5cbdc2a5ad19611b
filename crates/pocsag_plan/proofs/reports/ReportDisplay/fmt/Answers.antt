use Rattle.pocsag_plan.proofs.Prelude.{append_assoc, first_lines, last_lines, line_of, report_text}
use Rattle.pocsag_plan.proofs.reports.ReportDisplay.fmt.Goals as goal

pub returns-clause-writes : goal.returns-clause-writes
unfolding report_text first_lines last_lines line_of
returns-clause-writes g c = λ plain ok. simp append_assoc (simp append_assoc at c.write.ensures.writes plain ok)
