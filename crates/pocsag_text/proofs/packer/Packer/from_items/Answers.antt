use Rattle.pocsag_text.proofs.Prelude.{append-nil, packed_bits, high_first, item_bits}
use Rattle.pocsag_text.proofs.packer.Packer.from_items.Goals as goal

pub returns : goal.returns
unfolding packed_bits high_first
returns c = append-nil (item_bits c.args.items.items)
