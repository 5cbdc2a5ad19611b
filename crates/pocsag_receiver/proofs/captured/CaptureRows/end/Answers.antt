use Rattle.pocsag_receiver.proofs.Prelude.{arith, refl}
use Rattle.pocsag_receiver.proofs.CaptureRows.{ended}
use Rattle.pocsag_receiver.proofs.captured.CaptureRows.end.Goals as goal

pub returns-clause-left : goal.returns-clause-left
returns-clause-left c = λ rows heard l. (
  _,
  ended c.args.self.now c.args.begun (c.begin.ensures.left rows heard l) c.finish.ensures.ends.2 (omega (arith, c.requires.can.room, c.requires.can.begun.1))
      refl refl refl refl,
)
