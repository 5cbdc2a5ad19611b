-- What the fields of the packer and the unpacker stand for.
use Rattle.std.specs.Prelude.{ℕ, ◌^◌, ◌<◌, ◌≤◌, List, ◌++◌, All}
use Rattle.std.specs.List.{flat_map}
use Rattle.pocsag_text.specs.Bits.{low_first, high_first, item_width, AreItems, item_bits}

-- The bits of the items, and then those that wait.
unfoldable pub packed_bits : List ℕ → ℕ → ℕ → List ℕ
packed_bits items count held = item_bits items ++ high_first count held

-- Each item has twenty bits, and the bits that wait are fewer.
pub record IsPacked (items : List ℕ) (count held : ℕ) : Type 0 where
  pub small : AreItems items
  pub few : count < item_width
  pub fits : held < 2 ^ count

-- The bits of the codes, and then those that wait.
unfoldable pub unpacked_bits : ℕ → List ℕ → ℕ → ℕ → List ℕ
unpacked_bits width codes count held = flat_map (low_first width) codes ++ high_first count held

-- Each code has as many bits as the width says, and the bits that wait are fewer.
pub record IsUnpacked (width : ℕ) (codes : List ℕ) (count held : ℕ) : Type 0 where
  pub narrow : width ≤ 8
  pub small : All (λ code. code < 2 ^ width) codes
  pub few : count < width
  pub fits : held < 2 ^ count
