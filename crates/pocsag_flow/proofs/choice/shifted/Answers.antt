use Rattle.pocsag_flow.proofs.Prelude.{arith}
use Rattle.pocsag_flow.proofs.Steps.{shifted_is}
use Rattle.pocsag_flow.proofs.choice.shifted.Goals as goal

pub returns-clause-loads : goal.returns-clause-loads
returns-clause-loads c slot h =
    shifted_is c.args.loads c.args.from c.args.to c.args.moved slot (omega arith) (omega arith) c.requires.apart c.requires.taken
