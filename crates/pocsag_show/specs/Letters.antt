-- The letters of codewords as they come one by one.
use Rattle.std.specs.Prelude.{ℕ, ◌+◌, ◌*◌, List, [], ◌∷◌}
use Rattle.pocsag_words.specs.declared.codeword.Kind.{Kind}
use Rattle.pocsag_words.specs.declared.codeword.Kind.TheVariants.{Idle, Address, Message}
use Rattle.pocsag_pages.specs.Reading.{frame_at}
use Rattle.pocsag_show.specs.Numbers.{capital, small}

-- The letters of the codewords, the first of them at this index, where the page that began last has this number; the
-- numbers of addresses are given.
abbrev pub letters_with : (ℕ → ℕ) → (index last : ℕ) → List Kind → List ℕ
letters_with number_of index last [] = []
letters_with number_of index last (Idle ∷ ks) = 46 ∷ letters_with number_of (index + 1) last ks
letters_with number_of index last (Address high function ∷ ks) =
    let number = number_of (8 * high + frame_at index) in capital number ∷ letters_with number_of (index + 1) number ks
letters_with number_of index last (Message bits ∷ ks) = small last ∷ letters_with number_of (index + 1) last ks
