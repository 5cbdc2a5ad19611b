use Rattle.pocsag_text.proofs.Prelude.{◌≡◌, ◌++◌, take, item_bits}
use Rattle.pocsag_text.proofs.unpack.codes_of.Given as goal

abbrev pub invariant-loop-item : goal.invariant-loop-item
invariant-loop-item g l = l.unpacker ≡ l.initial.unpacker ++ item_bits (take l.item-index l.items)
