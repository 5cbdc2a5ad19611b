use Rattle.pocsag_laws.proofs.Preambles.{preamble_in_front, preamble_quiet}
use Rattle.pocsag_laws.proofs.laws.clean_preambles_are_quiet.Goals as goal

pub returns-clause-front : goal.returns-clause-front
returns-clause-front c = preamble_in_front

pub returns-clause-quiet : goal.returns-clause-quiet
returns-clause-quiet c = preamble_quiet
