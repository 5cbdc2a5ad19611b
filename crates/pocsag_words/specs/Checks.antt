-- What the lanes compute: sums of bits that are 0 in a codeword.
use Rattle.std.specs.Prelude.{ℕ, ◌*◌, ◌/◌, ◌%◌, ◌^◌, bit_xor}

-- The number times x ^ k, in 32 bits.
unfoldable pub moved : ℕ → ℕ → ℕ
moved k n = n * 2 ^ k % 2 ^ 32

-- The number times 1 + x, times 1 + x ^ 2, and times 1 + x + x ^ 2, without carry, in 32 bits.
unfoldable pub pair_of : ℕ → ℕ
pair_of n = bit_xor n (moved 1 n)

unfoldable pub spread_of : ℕ → ℕ
spread_of n = bit_xor n (moved 2 n)

unfoldable pub three_of : ℕ → ℕ
three_of n = bit_xor (pair_of n) (moved 2 n)

-- The number times x ^ 31 + 1 divided by x + 1 and by the generator.
unfoldable pub product_of : ℕ → ℕ
product_of n =
    bit_xor (bit_xor (bit_xor (bit_xor (three_of n) (moved 5 (three_of n))) (moved 11 (spread_of n))) (moved 16 (pair_of n))) (moved 20 n)

-- Eleven sums of bits of the number: the high bits of the product, each turned where the number is odd.
unfoldable pub checks_of : ℕ → ℕ
checks_of n = bit_xor (product_of n) (n % 2 * 0xffffffff) / 2 ^ 21
