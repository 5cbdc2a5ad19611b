use Rattle.pocsag_laws.proofs.Prelude.{false, pages_spellable, read_back}
use Rattle.pocsag_laws.proofs.FileRounds.{file_round}
use Rattle.pocsag_laws.proofs.laws.verdicts_are_rounds.Goals as goal

pub returns-clause-round : goal.returns-clause-round
returns-clause-round c = file_round

pub returns-clause-again : goal.returns-clause-again
returns-clause-again c = λ file R e. read_back R (file_round file R e) (pages_spellable false file R e)
