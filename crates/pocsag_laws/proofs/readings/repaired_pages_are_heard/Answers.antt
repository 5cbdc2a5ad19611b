use Rattle.pocsag_decode.proofs.Restoration.{heard_of_repaired}
use Rattle.pocsag_laws.proofs.readings.repaired_pages_are_heard.Goals as goal

pub returns : goal.returns
returns c = heard_of_repaired
