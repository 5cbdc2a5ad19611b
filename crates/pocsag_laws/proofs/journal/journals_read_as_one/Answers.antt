use Rattle.pocsag_laws.proofs.Prelude.{run_once}
use Rattle.pocsag_journal.proofs.Readings.{begun, no_bad_line, one_reading}
use Rattle.pocsag_laws.proofs.journal.journals_read_as_one.Goals as goal

pub returns-clause-one : goal.returns-clause-one
returns-clause-one c = one_reading

pub returns-clause-begun : goal.returns-clause-begun
returns-clause-begun c = begun

pub returns-clause-good : goal.returns-clause-good
returns-clause-good c = λ bytes rows torn pages line read run bad. no_bad_line bytes line bad rows torn pages read run

pub returns-clause-list : goal.returns-clause-list
returns-clause-list c = run_once
