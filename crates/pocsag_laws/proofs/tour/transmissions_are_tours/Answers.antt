use Rattle.pocsag_laws.proofs.Prelude.{toured, early_choice, loads_carried}
use Rattle.pocsag_slots.proofs.Prelude.{map, kind_of}
use Rattle.pocsag_laws.proofs.tour.transmissions_are_tours.Goals as goal

pub returns-clause-kinds : goal.returns-clause-kinds
returns-clause-kinds c = toured

pub returns-clause-codewords : goal.returns-clause-codewords
returns-clause-codewords c k end T R b apart classes legal = toured k end (map kind_of T) R b apart classes legal.1

pub returns-clause-choice : goal.returns-clause-choice
returns-clause-choice c = early_choice

pub returns-clause-loads : goal.returns-clause-loads
returns-clause-loads c = loads_carried
