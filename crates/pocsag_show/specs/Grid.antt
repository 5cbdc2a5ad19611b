-- The grid of a transmission: which letter stands for each of its codewords (this project's own).
use Rattle.std.specs.Prelude.{ℕ, ◌+◌, ◌-◌, Bool, true, false, if◌then◌else◌, List, [], ◌∷◌, ◌++◌, take, slice_index, slice_index_or}
use Rattle.std.specs.List.{count_by}
use Rattle.pocsag_words.specs.declared.codeword.Kind.{Kind}
use Rattle.pocsag_words.specs.declared.codeword.Kind.TheVariants.{Idle, Address, Message}
use Rattle.pocsag_decode.specs.Places.{is_idle}
use Rattle.pocsag_show.specs.Numbers.{capital, small}

abbrev pub is_address : Kind → Bool
is_address Idle = false
is_address (Address high function) = true
is_address (Message bits) = false

-- How many pages begin in the codewords, each with its address codeword, and how many are idle.
abbrev pub pages_in : List Kind → ℕ
pages_in ks = count_by is_address ks

abbrev pub idles_in : List Kind → ℕ
idles_in ks = count_by is_idle ks

-- The indices of the address codewords, where the first codeword has this index: there the pages begin.
abbrev pub starts_from : ℕ → List Kind → List ℕ
starts_from i [] = []
starts_from i (k ∷ ks) = (if is_address k then i ∷ [] else []) ++ starts_from (i + 1) ks

-- The letter of a codeword where so many pages began before it, whose numbers are given: a full stop for an idle, the
-- capital letter of the page that an address codeword begins, the small letter of the page that began last for
-- a message codeword.
abbrev pub letter_after : List ℕ → ℕ → Kind → ℕ
letter_after numbers pages Idle = 46
letter_after numbers pages (Address high function) = capital (slice_index numbers pages)
letter_after numbers pages (Message bits) = small (slice_index numbers (pages - 1))

-- The letter at an index of the codewords, whose pages have these numbers in order of transmission.
unfoldable pub letter_at : List ℕ → List Kind → ℕ → ℕ
letter_at numbers ks i = letter_after numbers (pages_in (take i ks)) (slice_index_or ks i Idle)
