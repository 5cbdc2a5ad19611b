use Rattle.pocsag_decode.proofs.Prelude.{length, IsTaking}
use Rattle.pocsag_decode.proofs.body.Body.take.Given as goal

abbrev pub invariant-loop-rest : goal.invariant-loop-rest
invariant-loop-rest l = IsTaking l.fn.self l.self l.fn.bytes l.rest

abbrev pub decreases-loop-rest : goal.decreases-loop-rest
decreases-loop-rest l = length l.rest
