use Rattle.pocsag_laws.proofs.Prelude.{laid_list_legal}
use Rattle.pocsag_slots.proofs.LaidSteps.{laid_legal}
use Rattle.pocsag_slots.proofs.Sayable.{tour_worded}
use Rattle.pocsag_laws.proofs.tour.tours_are_transmissions.Goals as goal

pub returns-clause-kinds : goal.returns-clause-kinds
returns-clause-kinds c = laid_legal

pub returns-clause-codewords : goal.returns-clause-codewords
returns-clause-codewords c = laid_list_legal

pub returns-clause-some : goal.returns-clause-some
returns-clause-some c = tour_worded
