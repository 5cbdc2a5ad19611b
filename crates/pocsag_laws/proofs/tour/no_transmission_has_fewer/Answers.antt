use Rattle.pocsag_slots.proofs.Prelude.{map, kind_of}
use Rattle.pocsag_laws.proofs.Prelude.{fewest}
use Rattle.pocsag_laws.proofs.tour.no_transmission_has_fewer.Goals as goal

pub returns-clause-kinds : goal.returns-clause-kinds
returns-clause-kinds c = fewest

pub returns-clause-codewords : goal.returns-clause-codewords
returns-clause-codewords c k end T R a b apart classes least legal =
    fewest k end (map kind_of T) R a b apart classes least legal.1
