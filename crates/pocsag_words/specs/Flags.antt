-- What a check of many numbers answers.
use Rattle.std.specs.Prelude.{ℕ, ◌<◌, ◌↔◌, List, Bool, false, length, IsTrue, slice_index, slice_index_or}
use Rattle.pocsag_words.specs.Codeword.{IsCodeword}

-- Each of the first n flags says whether the number at its place is a codeword.
abbrev pub TellFirst : ℕ → List ℕ → List Bool → Type 0
TellFirst n numbers flags =
    (k : ℕ) → k < n → IsTrue (slice_index_or flags k false) ↔ IsCodeword (slice_index numbers k)

-- Each flag says whether the number at its place is a codeword.
abbrev pub TellCodewords : List ℕ → List Bool → Type 0
TellCodewords numbers flags = TellFirst (length numbers) numbers flags
