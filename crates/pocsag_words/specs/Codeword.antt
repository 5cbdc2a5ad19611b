-- What a codeword is, and which codeword is near a number.
use Rattle.std.specs.Prelude.{◌≡◌, ℕ, ◌/◌, ◌%◌, ◌^◌, ◌<◌, ◌≤◌, bit_xor, count_ones}
use Rattle.pocsag_words.specs.Carryless.{carryless}

-- The generator of the Recommendation: bit i stands for x ^ i.
abbrev pub generator : ℕ
generator = 0x769

-- The number is the product, without carry, of the generator and of some number below 2 ^ 21.
abbrev pub IsMultiple : ℕ → Type 0
IsMultiple n = (q : ℕ) × (q < 2 ^ 21) × (n ≡ carryless 21 generator q)

-- *Codeword*, a rule of Annex 1: the first 31 bits are a multiple of the generator, and the number
-- of ones is even.
pub record IsCodeword (w : ℕ) : Type 0 where
  pub fits : w < 2 ^ 32
  pub multiple : IsMultiple (w / 2)
  pub even : count_ones w % 2 ≡ 0

-- The two numbers differ in at most two bits.
abbrev pub IsNear : ℕ → ℕ → Type 0
IsNear v w = count_ones (bit_xor v w) ≤ 2

-- v is the only codeword that differs from w in at most two bits.
pub record IsOnlyNear (w v : ℕ) : Type 0 where
  pub codeword : IsCodeword v
  pub near : IsNear v w
  pub only : (u : ℕ) → IsCodeword u → IsNear u w → u ≡ v

-- No codeword differs from w in at most two bits.
abbrev pub HasNoneNear : ℕ → Type 0
HasNoneNear w = (v : ℕ) → IsCodeword v → ¬ IsNear v w
