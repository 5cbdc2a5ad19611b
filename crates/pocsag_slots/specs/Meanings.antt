-- Codewords that are known by what they say.
use Rattle.std.specs.Prelude.{◌≡◌, ℕ, List, map, All}
use Rattle.pocsag_words.specs.Codeword.{IsCodeword}
use Rattle.pocsag_words.specs.Kinds.{kind_of}
use Rattle.pocsag_words.specs.declared.codeword.Kind.{Kind}

-- These are codewords, and in order they say this. A codeword is known by what it says, so no other list
-- does.
pub record Say (said : List Kind) (words : List ℕ) : Type 0 where
  pub codewords : All IsCodeword words
  pub kinds : map kind_of words ≡ said

-- There are codewords that in order say this.
abbrev pub IsSayable : List Kind → Type 0
IsSayable said = (words : List ℕ) × Say said words
