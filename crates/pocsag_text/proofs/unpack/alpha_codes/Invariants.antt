use Rattle.pocsag_text.proofs.Prelude.{◌≡◌, ◌<◌, ◌++◌, All, length, flat_map, low_first, item_bits, AreItems}
use Rattle.pocsag_text.proofs.unpack.alpha_codes.Given as goal

abbrev pub invariant-loop-rest : goal.invariant-loop-rest
invariant-loop-rest l = record {
  bits : flat_map (low_first 7) l.codes.items ++ item_bits l.rest ≡ item_bits l.items;
  small : All (λ code. code < 128) l.codes.items;
  left : AreItems l.rest;
}

abbrev pub decreases-loop-rest : goal.decreases-loop-rest
decreases-loop-rest l = length l.rest
