use Rattle.pocsag_pager.proofs.Damage.{no_fault, repaired}
use Rattle.pocsag_pager.proofs.laws.damage_is_repaired.Goals as goal

pub returns-clause-whole : goal.returns-clause-whole
returns-clause-whole c = no_fault

pub returns-clause-shown : goal.returns-clause-shown
returns-clause-shown c = λ end T batches R Y a ps round legal damaged shown.
    repaired c.readings_are_plain.ensures end T batches R Y a ps (c.rounds_are_apart.ensures R round) legal damaged shown
