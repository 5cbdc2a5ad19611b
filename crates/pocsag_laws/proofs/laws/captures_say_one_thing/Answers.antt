use Rattle.pocsag_laws.proofs.Prelude.{one_thing}
use Rattle.pocsag_laws.proofs.OnlySent.{nothing_of_noise}
use Rattle.pocsag_laws.proofs.laws.captures_say_one_thing.Goals as goal

pub returns-clause-one : goal.returns-clause-one
returns-clause-one c = one_thing

pub returns-clause-noise : goal.returns-clause-noise
returns-clause-noise c = nothing_of_noise
