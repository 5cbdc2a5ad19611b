-- Products of binary polynomials: numbers as their coefficients, without carry.
use Rattle.std.specs.Prelude.{ℕ, zero, suc, ◌*◌, ◌/◌, ◌%◌, bit_xor}

-- The carry-less product of a and of the number that the lowest k bits of b make.
unfoldable pub carryless : ℕ → ℕ → ℕ → ℕ
carryless zero a b = 0
carryless (suc k) a b = bit_xor (b % 2 * a) (carryless k (2 * a) (b / 2))
