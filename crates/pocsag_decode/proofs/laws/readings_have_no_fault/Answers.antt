use Rattle.pocsag_decode.proofs.Restoration.{no_fault_of_reading}
use Rattle.pocsag_decode.proofs.laws.readings_have_no_fault.Goals as goal

pub returns : goal.returns
returns c = no_fault_of_reading
