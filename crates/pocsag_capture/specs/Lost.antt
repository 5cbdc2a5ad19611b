-- Words once they are mended: how many are past repair, and how many of their bits were wrong.
use Rattle.std.specs.Prelude.{ℕ, ◌+◌, List, [], ◌∷◌, Option, Some, None, bit_xor, count_ones}

-- How many of the words are past repair.
abbrev pub lost_words : List (Option ℕ) → ℕ
lost_words [] = 0
lost_words (None ∷ ms) = 1 + lost_words ms
lost_words (Some v ∷ ms) = lost_words ms

-- In how many bits a word differs from what it is mended to.
abbrev pub wrong_bits : ℕ → Option ℕ → ℕ
wrong_bits w None = 0
wrong_bits w (Some v) = count_ones (bit_xor v w)

-- The same of words.
abbrev pub mended_errors : List ℕ → List (Option ℕ) → ℕ
mended_errors [] ms = 0
mended_errors (w ∷ ws) [] = 0
mended_errors (w ∷ ws) (m ∷ ms) = wrong_bits w m + mended_errors ws ms
