use Rattle.pocsag_laws.proofs.Ends.{closed_from_idle, longer, open_from_closed}
use Rattle.pocsag_laws.proofs.Prelude.{replicate, ◌++◌, ◌+◌, idle_word}
use Rattle.pocsag_words.specs.declared.ending.End.TheVariants.{Idle, Open}
use Rattle.pocsag_laws.proofs.laws.stricter_ends_are_legal.Goals as goal

pub returns-clause-idle : goal.returns-clause-idle
returns-clause-idle c = closed_from_idle

pub returns-clause-closed : goal.returns-clause-closed
returns-clause-closed c = open_from_closed

pub returns-clause-longer : goal.returns-clause-longer
returns-clause-longer c = longer

pub returns-clause-fewest : goal.returns-clause-fewest
returns-clause-fewest c = λ R o k i at_open at_closed at_idle.
    let one = at_open.sendable in
    let two = at_closed.sendable in
    let three = at_idle.sendable in (
      at_open.least k (two.0, open_from_closed two.0 k R two.1),
      at_closed.least i (three.0, closed_from_idle three.0 i R three.1),
      at_idle.least (o + 1) (one.0 ++ replicate 16 idle_word, longer Open Idle one.0 o R one.1),
    )
