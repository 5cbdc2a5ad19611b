-- What the code computes: check bits from data bits, by a column for each data bit.
use Rattle.std.specs.Prelude.{ℕ, ◌*◌, ◌/◌, ◌%◌, List, [], ◌∷◌, bit_xor}

-- The sum, without carry, of the columns at the set bits, the lowest bit first.
unfoldable pub combine : List ℕ → ℕ → ℕ
combine [] n = 0
combine (t ∷ ts) n = bit_xor (n % 2 * t) (combine ts (n / 2))

-- What each of the 21 data bits adds to the ten check bits and the parity bit, the lowest bit first:
-- twice the remainder of its power by 769 (hexadecimal), and the parity that makes the ones of data
-- bit, remainder and parity even in number.
unfoldable pub columns : List ℕ
columns =
    0x6d3 ∷ 0x376 ∷ 0x6ec ∷ 0x30b ∷ 0x615 ∷ 0x2fa ∷ 0x5f4 ∷ 0x53b ∷ 0x4a6 ∷ 0x79f ∷ 0x1ee ∷ 0x3dc ∷ 0x7b8 ∷ 0x1a3 ∷ 0x345 ∷ 0x689 ∷
    0x3c2 ∷ 0x784 ∷ 0x1db ∷ 0x3b5 ∷ 0x769 ∷ []

-- The check bits and the parity bit of the codeword with this data.
unfoldable pub check_of : ℕ → ℕ
check_of d = combine columns d

-- The difference between the low 11 bits of the number and what its data wants.
unfoldable pub syndrome_of : ℕ → ℕ
syndrome_of n = bit_xor (n % 2048) (check_of (n / 2048))
