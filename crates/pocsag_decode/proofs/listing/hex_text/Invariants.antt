use Rattle.pocsag_decode.proofs.Prelude.{◌≡◌, take, flat_map, hex_digits}
use Rattle.pocsag_decode.proofs.listing.hex_text.Given as goal

abbrev pub invariant-loop-item : goal.invariant-loop-item
invariant-loop-item l = l.text.items ≡ flat_map hex_digits (take l.item-index l.items)
