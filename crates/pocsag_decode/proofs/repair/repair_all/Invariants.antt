use Rattle.pocsag_decode.proofs.Prelude.{◌-◌, length}
use Rattle.pocsag_decode.proofs.Repairs.{IsRepairing}
use Rattle.pocsag_decode.proofs.repair.repair_all.Given as goal

abbrev pub invariant-loop-bytes : goal.invariant-loop-bytes
invariant-loop-bytes l = IsRepairing l.initial.bytes l.bytes l.at l.place l.told.words l.told.bits

abbrev pub decreases-loop-bytes : goal.decreases-loop-bytes
decreases-loop-bytes l = length l.bytes - l.at
