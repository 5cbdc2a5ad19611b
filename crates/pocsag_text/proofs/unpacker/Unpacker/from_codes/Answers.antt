use Rattle.pocsag_text.proofs.Prelude.{flat_map, append-nil, unpacked_bits, high_first, low_first}
use Rattle.pocsag_text.proofs.unpacker.Unpacker.from_codes.Goals as goal

pub returns : goal.returns
unfolding unpacked_bits high_first
returns g c = append-nil (flat_map (low_first g.row.W) c.args.codes.items)
