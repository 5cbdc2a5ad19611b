use Rattle.pocsag_receiver.proofs.Prelude.{refl, sym}
use Rattle.pocsag_decode.proofs.Repairs.{nothing_differs}
use Rattle.pocsag_receiver.proofs.repair.repair_asked.Goals as goal

pub returns-clause-counted : goal.returns-clause-counted
returns-clause-counted c =
    let none = nothing_differs c.args.bytes.now c.args.bytes.now refl in record { in_words = sym none.0; in_bits = sym none.1 }
