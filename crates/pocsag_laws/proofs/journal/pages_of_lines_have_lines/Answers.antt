use Rattle.pocsag_laws.proofs.Prelude.{read_line, edit_lined, journal_lined, not_unlined, run_lined}
use Rattle.pocsag_laws.proofs.journal.pages_of_lines_have_lines.Goals as goal

pub returns-clause-read : goal.returns-clause-read
returns-clause-read c = read_line

pub returns-clause-edit : goal.returns-clause-edit
returns-clause-edit c = edit_lined

pub returns-clause-run : goal.returns-clause-run
returns-clause-run c = run_lined

pub returns-clause-journal : goal.returns-clause-journal
returns-clause-journal c = journal_lined

pub returns-clause-each : goal.returns-clause-each
returns-clause-each c = not_unlined
