-- Damage on the way to a pager (this project's own).
use Rattle.std.specs.Prelude.{◌≡◌, ℕ, List, length}
use Rattle.std.specs.List.{AllZip}
use Rattle.pocsag_words.specs.Codeword.{IsNear}
use Rattle.pocsag_pages.specs.Bytes.{after_preamble, leading, words_of}

-- *Damage*: equal lengths, equally many leading bytes AA, and each word after them, synchronisation
-- words included, differs in at most two bits.
pub record IsDamaged (x y : List ℕ) : Type 0 where
  pub long : length x ≡ length y
  pub preamble : leading x ≡ leading y
  pub words : AllZip IsNear (words_of (after_preamble x)) (words_of (after_preamble y))
