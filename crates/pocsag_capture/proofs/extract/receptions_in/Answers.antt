use Rattle.pocsag_capture.proofs.Prelude.{arith}
use Rattle.pocsag_capture.proofs.Ends.{receptions_short}
use Rattle.pocsag_capture.proofs.extract.receptions_in.Goals as goal

pub returns-clause-some : goal.returns-clause-some
returns-clause-some c = λ k d below. (receptions_short c.args.capture.now _ (omega arith) c.in_ok-receptions.ensures k d below).some

pub returns-clause-ends : goal.returns-clause-ends
returns-clause-ends c = λ k d below. (receptions_short c.args.capture.now _ (omega arith) c.in_ok-receptions.ensures k d below).end
