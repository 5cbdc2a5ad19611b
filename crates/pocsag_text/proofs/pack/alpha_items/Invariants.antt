use Rattle.pocsag_text.proofs.Prelude.{◌≡◌, ◌<◌, ◌++◌, All, length, take, flat_map, low_first, item_bits, AreItems}
use Rattle.pocsag_text.proofs.pack.alpha_items.Given as goal

abbrev pub invariant-loop-rest : goal.invariant-loop-rest
invariant-loop-rest l = record {
  bits : item_bits l.items.items ++ flat_map (low_first 7) l.rest ≡ flat_map (low_first 7) l.text;
  small : AreItems l.items.items;
  bytes : All (λ byte. byte < 128) l.rest;
}

abbrev pub decreases-loop-rest : goal.decreases-loop-rest
decreases-loop-rest l = length l.rest

abbrev pub invariant-loop-byte : goal.invariant-loop-byte
invariant-loop-byte l = l.packer ≡ l.initial.packer ++ flat_map (low_first 7) (take l.byte-index l.byte-items)
