use Rattle.pocsag_centre.proofs.Prelude.{◌∙◌, sym}
use Rattle.pocsag_centre.proofs.QueueRounds.{round_firsts}
use Rattle.pocsag_centre.proofs.readback.round_of_queue.Goals as goal

pub returns : goal.returns
returns c = c.of.ensures ∙ sym (round_firsts c.args.queue.items (c.requires.apart c.if-may_wait.false))
