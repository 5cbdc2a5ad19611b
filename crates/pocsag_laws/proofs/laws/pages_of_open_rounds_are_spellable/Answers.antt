use Rattle.pocsag_laws.proofs.Prelude.{read_back}
use Rattle.pocsag_laws.proofs.OpenRounds.{edit_spellable, open_round, open_spellable, run_spellable}
use Rattle.pocsag_laws.proofs.laws.pages_of_open_rounds_are_spellable.Goals as goal

pub returns-clause-edit : goal.returns-clause-edit
returns-clause-edit c = edit_spellable

pub returns-clause-run : goal.returns-clause-run
returns-clause-run c = run_spellable

pub returns-clause-open_round : goal.returns-clause-open_round
returns-clause-open_round c = open_spellable

pub returns-clause-round : goal.returns-clause-round
returns-clause-round c = open_round

pub returns-clause-again : goal.returns-clause-again
returns-clause-again c = λ pages o some. read_back pages (open_round pages o some) (open_spellable pages o)
