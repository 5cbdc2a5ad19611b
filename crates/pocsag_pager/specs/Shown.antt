-- What a pager shows of the words after a preamble: a list of places, over words that are mended.
use Rattle.std.specs.Prelude.{◌≡◌, ◌≢◌, ℕ, ◌+◌, ◌/◌, ◌%◌, ◌==◌, ◌&&◌, if◌then◌else◌, List, [], ◌∷◌, map, Bool, Option, Some, None, MatchOption}
use Rattle.std.specs.List.{AllZip}
use Rattle.pocsag_words.specs.Codeword.{HasNoneNear, IsOnlyNear}
use Rattle.pocsag_words.specs.Kinds.{kind_of}
use Rattle.pocsag_words.specs.declared.codeword.Kind.{Kind}
use Rattle.pocsag_words.specs.declared.codeword.Kind.TheVariants.{Idle, Address, Message}
use Rattle.pocsag_pages.specs.declared.page.Page.{Page}
use Rattle.pocsag_pages.specs.Bytes.{unsynced}
use Rattle.pocsag_pages.specs.Reading.{frame_at}

-- A word as it is mended: the only codeword that differs from it in at most two bits, or a blank
-- where there is none.
abbrev pub IsMended : ℕ → Option ℕ → Type 0
IsMended w mended = MatchOption mended (HasNoneNear w) (IsOnlyNear w)

-- What a mended word says: nothing where it is a blank.
abbrev pub said : Option ℕ → Option Kind
said None = None
said (Some w) = Some (kind_of w)

-- The fact holds of what the words say once those at the places of synchronisation codewords are
-- left out, whatever they hold, and each other word is mended.
pub record HoldsOnceMended (words : List ℕ) (P : List (Option Kind) → Type 0) : Type 0 where
  pub mended : List (Option ℕ)
  pub each : AllZip IsMended (unsynced 0 words) mended
  pub holds : P (map said mended)

-- The bits of the longest run of message codewords that stands first.
abbrev pub run_of : List (Option Kind) → List ℕ
run_of [] = []
run_of (None ∷ ms) = []
run_of (Some Idle ∷ ms) = []
run_of (Some (Address high function) ∷ ms) = []
run_of (Some (Message bits) ∷ ms) = bits ∷ run_of ms

-- Whether an address codeword at an index, with these high bits, is that of the address: it stands
-- in the address's frame, which its three low bits name, and has its 18 high bits (a rule of Annex 1).
unfoldable pub is_ours : ℕ → ℕ → ℕ → Bool
is_ours a i high = (frame_at i == a % 8) && (high == a / 8)

-- The page of an address codeword with this function, before these words.
abbrev pub page_called : ℕ → ℕ → List (Option Kind) → Page
page_called a function ms = record { address = a; function = function; payload = run_of ms }

-- The pages of the address, by rising index; the first word is at this index.
abbrev pub shown_from : ℕ → ℕ → List (Option Kind) → List Page
shown_from a i [] = []
shown_from a i (None ∷ ms) = shown_from a (i + 1) ms
shown_from a i (Some Idle ∷ ms) = shown_from a (i + 1) ms
shown_from a i (Some (Address high function) ∷ ms) =
    if is_ours a i high then page_called a function ms ∷ shown_from a (i + 1) ms else shown_from a (i + 1) ms
shown_from a i (Some (Message bits) ∷ ms) = shown_from a (i + 1) ms

-- *Shown* (this project's own): these are the pages that a pager of the address shows of the words
-- after a preamble.
abbrev pub AreShown : List ℕ → ℕ → List Page → Type 0
AreShown words a ps = HoldsOnceMended words (λ ms. ps ≡ shown_from a 0 ms)

-- The pager shows a page at least: whatever pages are shown of the words, there are some.
abbrev pub ShowsSome : List ℕ → ℕ → Type 0
ShowsSome words a = (ps : List Page) → AreShown words a ps → ps ≢ []
