use Rattle.pocsag_text.proofs.Prelude.{◌≡◌, take, map, flat_map, low_first, code_or_space}
use Rattle.pocsag_text.proofs.pack.numeric_items.Given as goal

abbrev pub invariant-loop-byte : goal.invariant-loop-byte
invariant-loop-byte l = l.packer ≡ flat_map (low_first 4) (map code_or_space (take l.byte-index l.text))
