-- The numeric characters and their codes.
use Rattle.std.specs.Prelude.{ℕ, ◌==◌, List, ◌++◌, Option, Bool, is_none, unwrap_or, position, slice_index, codes}

-- The characters of codes 0 to 15, in this order. That a digit's code is its value is a rule of
-- Annex 1; how the codes 10 to 15 are written is this project's own.
unfoldable pub numeric_characters : List ℕ
numeric_characters = codes "0123456789" ++ codes "*U -]["

-- The space, and its code, with which a numeric message is filled (a rule of Annex 1).
abbrev pub space : ℕ
space = 32

abbrev pub space_code : ℕ
space_code = 12

-- The character of a code.
abbrev pub character_of : ℕ → ℕ
character_of code = slice_index numeric_characters code

-- The code of a byte, if it is a numeric character.
abbrev pub code_of : ℕ → Option ℕ
code_of b = position (λ c. c == b) numeric_characters

-- The code of a byte, which for other bytes than the numeric characters is that of the space.
abbrev pub code_or_space : ℕ → ℕ
code_or_space b = unwrap_or (code_of b) space_code

-- Whether a byte may not stand in a numeric text.
abbrev pub is_bad_digit : ℕ → Bool
is_bad_digit b = is_none (code_of b)
