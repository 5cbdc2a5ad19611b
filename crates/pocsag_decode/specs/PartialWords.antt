-- The bytes of a word that is not whole.
use Rattle.std.specs.Prelude.{ℕ, ◌+◌, ◌*◌, List, [], ◌∷◌, length}
use Rattle.pocsag_decode.specs.declared.partial_word.PartialWord.{PartialWord}
use Rattle.pocsag_decode.specs.declared.partial_word.PartialWord.TheVariants as partial

abbrev pub partial_bytes : PartialWord → List ℕ
partial_bytes partial.None = []
partial_bytes (partial.One a) = a ∷ []
partial_bytes (partial.Two a b) = a ∷ b ∷ []
partial_bytes (partial.Three a b c) = a ∷ b ∷ c ∷ []

-- How many bytes so many whole words and these are.
abbrev pub size_of : ℕ → PartialWord → ℕ
size_of place partial = 4 * place + length (partial_bytes partial)

-- What follows the whole words of the bytes.
abbrev pub unfinished : List ℕ → List ℕ
unfinished (a ∷ b ∷ c ∷ d ∷ bytes) = unfinished bytes
unfinished bytes = bytes
