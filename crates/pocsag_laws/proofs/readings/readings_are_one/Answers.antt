use Rattle.pocsag_laws.proofs.Prelude.{sym, ◌∙◌, reads_plainly, one_fault, there_stays}
use Rattle.pocsag_laws.proofs.readings.readings_are_one.Goals as goal

pub returns-clause-reading : goal.returns-clause-reading
returns-clause-reading c = λ ws i ps qs r s. (reads_plainly r).pages ∙ sym (reads_plainly s).pages

pub returns-clause-fault : goal.returns-clause-fault
returns-clause-fault c = one_fault

pub returns-clause-stays : goal.returns-clause-stays
returns-clause-stays c = there_stays
