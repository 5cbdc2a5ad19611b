use Rattle.pocsag_decode.proofs.ListedFields.{fields_back}
use Rattle.pocsag_laws.proofs.readings.listed_fields_are_read_back.Goals as goal

pub returns : goal.returns
returns c = λ p low free spelled. fields_back p.address p.function p.payload low free spelled
