use Rattle.pocsag_laws.proofs.Prelude.{address_has_codeword, message_has_codeword, same_from_kind_lem}
use Rattle.pocsag_laws.proofs.codeword.kinds_have_one_codeword.Goals as goal

pub returns-clause-address : goal.returns-clause-address
returns-clause-address c = address_has_codeword

pub returns-clause-message : goal.returns-clause-message
returns-clause-message c = message_has_codeword

pub returns-clause-one : goal.returns-clause-one
returns-clause-one c = same_from_kind_lem
