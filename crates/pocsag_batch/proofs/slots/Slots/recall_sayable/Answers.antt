use Rattle.pocsag_batch.proofs.Sayable.{left_sayable}
use Rattle.pocsag_batch.proofs.Prelude.{address_has_codeword, message_has_codeword}
use Rattle.pocsag_batch.proofs.slots.Slots.recall_sayable.Goals as goal

pub returns : goal.returns
returns c =
    left_sayable (record { address = address_has_codeword; message = message_has_codeword })
    c.self.inside.pages.now c.self.inside.order.now c.self.inside.items.now c.self.inside.steps.now c.args.self.now
    c.self.view_is c.self.invariant.0 c.self.invariant.1 c.self.invariant.2
