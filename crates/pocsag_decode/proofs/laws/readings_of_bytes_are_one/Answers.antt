use Rattle.pocsag_decode.proofs.SentBytes.{one_reading}
use Rattle.pocsag_decode.proofs.laws.readings_of_bytes_are_one.Goals as goal

pub returns : goal.returns
returns c = one_reading
