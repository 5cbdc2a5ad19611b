use Rattle.pocsag_laws.proofs.Prelude.{texts_same, nothing_more, same_fault, no_fault}
use Rattle.pocsag_laws.proofs.certificate.one_certificate.Goals as goal

pub returns-clause-same : goal.returns-clause-same
returns-clause-same c = texts_same

pub returns-clause-no_prefix : goal.returns-clause-no_prefix
returns-clause-no_prefix c = nothing_more

pub returns-clause-one_fault : goal.returns-clause-one_fault
returns-clause-one_fault c = same_fault

pub returns-clause-no_fault : goal.returns-clause-no_fault
returns-clause-no_fault c = no_fault
