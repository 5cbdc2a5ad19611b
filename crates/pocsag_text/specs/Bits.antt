-- Lists of bits, each 0 or 1, in the order in which they are sent, and the numbers that they make.
use Rattle.std.specs.Prelude.{ℕ, zero, suc, ◌+◌, ◌*◌, ◌/◌, ◌%◌, ◌^◌, ◌<◌, ◌≤◌, List, [], ◌∷◌, take, drop, All}
use Rattle.std.specs.List.{flat_map}

-- The n lowest bits of a number, the lowest one first.
unfoldable pub low_first : ℕ → ℕ → List ℕ
low_first zero v = []
low_first (suc n) v = (v % 2) ∷ low_first n (v / 2)

-- The n lowest bits of a number, the highest of them first.
unfoldable pub high_first : ℕ → ℕ → List ℕ
high_first zero v = []
high_first (suc n) v = (v / 2 ^ n % 2) ∷ high_first n v

-- The number that bits make, read with the lowest first.
unfoldable pub low_number : List ℕ → ℕ
low_number [] = 0
low_number (b ∷ bits) = b + 2 * low_number bits

-- The number that bits make behind those of value, read with the highest first.
unfoldable pub high_number : ℕ → List ℕ → ℕ
high_number value [] = value
high_number value (b ∷ bits) = high_number (2 * value + b) bits

-- The first n pieces of so many bits each, each piece read as a number.
unfoldable pub cut : ℕ → (List ℕ → ℕ) → ℕ → List ℕ → List ℕ
cut width read zero bits = []
cut width read (suc n) bits = read (take width bits) ∷ cut width read n (drop width bits)

-- How many bits a message codeword carries, and a numeric and an alphanumeric character have (rules
-- of Annex 1).
abbrev pub item_width : ℕ
item_width = 20

abbrev pub numeric_width : ℕ
numeric_width = 4

abbrev pub alpha_width : ℕ
alpha_width = 7

-- The number is a code of so many bits, at most eight.
pub record IsCodeOf (width code : ℕ) : Type 0 where
  pub wide : 0 < width
  pub narrow : width ≤ 8
  pub fits : code < 2 ^ width

-- What message codewords carry: each item has twenty bits.
abbrev pub AreItems : List ℕ → Type 0
AreItems items = All (λ item. item < 2 ^ item_width) items

-- The bits of message codewords, a rule of Annex 1: twenty of each, the highest first.
abbrev pub item_bits : List ℕ → List ℕ
item_bits items = flat_map (high_first item_width) items
