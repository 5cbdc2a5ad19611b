-- Where a pager stands after words, which it does not store (this project's own).
use Rattle.std.specs.Prelude.{◌≡◌, ◌≢◌, ℕ, ◌+◌, ◌*◌, ◌%◌, ◌≤◌, ◌⊎◌, ◌&&◌, not, if◌then◌else◌, List, [], ◌∷◌, ◌++◌, length, Bool, true, false, Option, Some, None, IsSome, Result, OnOk, OnErr, IfErr}
use Rattle.pocsag_words.specs.declared.codeword.Kind.{Kind}
use Rattle.pocsag_words.specs.declared.codeword.Kind.TheVariants.{Idle, Address, Message}
use Rattle.pocsag_pages.specs.declared.page.Page.{Page}
use Rattle.pocsag_pages.specs.Bytes.{words_of}
use Rattle.pocsag_pager.specs.declared.fault.PagerFault.{PagerFault}
use Rattle.pocsag_pager.specs.declared.fault.PagerFault.TheVariants as fault
use Rattle.pocsag_pager.specs.declared.pager.Pager.{Pager}
use Rattle.pocsag_pager.specs.declared.pager.State.TheVariants.{Listening, Failed}
use Rattle.pocsag_pager.specs.Shown.{HoldsOnceMended, ShowsSome, is_ours, page_called}
use Rattle.pocsag_pager.specs.Turns.{IsHeardAs}

-- Whether all of these are message codewords, so that a page before them is still open.
abbrev pub is_run : List (Option Kind) → Bool
is_run [] = true
is_run (None ∷ ms) = false
is_run (Some Idle ∷ ms) = false
is_run (Some (Address high function) ∷ ms) = false
is_run (Some (Message bits) ∷ ms) = is_run ms

-- The pages of *Shown* whose run of message codewords has ended.
abbrev pub ended_from : ℕ → ℕ → List (Option Kind) → List Page
ended_from a i [] = []
ended_from a i (None ∷ ms) = ended_from a (i + 1) ms
ended_from a i (Some Idle ∷ ms) = ended_from a (i + 1) ms
ended_from a i (Some (Address high function) ∷ ms) =
    if is_ours a i high && not (is_run ms) then page_called a function ms ∷ ended_from a (i + 1) ms else ended_from a (i + 1) ms
ended_from a i (Some (Message bits) ∷ ms) = ended_from a (i + 1) ms

-- The page of *Shown* that is still open, if there is one.
abbrev pub open_from : ℕ → ℕ → List (Option Kind) → Option Page
open_from a i [] = None
open_from a i (None ∷ ms) = open_from a (i + 1) ms
open_from a i (Some Idle ∷ ms) = open_from a (i + 1) ms
open_from a i (Some (Address high function) ∷ ms) =
    if is_ours a i high && is_run ms then Some (page_called a function ms) else open_from a (i + 1) ms
open_from a i (Some (Message bits) ∷ ms) = open_from a (i + 1) ms

-- These are the pages of *Shown* that have ended within the words.
abbrev pub HaveEnded : List ℕ → ℕ → List Page → Type 0
HaveEnded words a ps = HoldsOnceMended words (λ ms. ps ≡ ended_from a 0 ms)

-- The address of a pager.
abbrev pub pager_address : Pager → ℕ
pager_address p = p.address

-- The pager answers `Failed` to every call.
abbrev pub IsOver : Pager → Type 0
IsOver p = p.state ≡ Failed

-- *Standing*: the pager has heard these words. Of them it holds their number modulo 17 and the page
-- that is still open.
pub record HasFollowed (p : Pager) (words : List ℕ) : Type 0 where
  pub place : p.place ≡ length words % 17
  pub open_page : HoldsOnceMended words (λ ms. p.state ≡ Listening (open_from p.address 0 ms))

-- Where hearing a word wants memory: of these words a page is still open, and the word more, at the place of a codeword,
-- says once it is mended that it continues that page.
pub record Continues (words : List ℕ) (a word : ℕ) : Type 0 where
  pub codeword : length words % 17 ≢ 0
  pub bits : ℕ
  pub message : IsHeardAs word (Some (Message bits))
  pub open_page : HoldsOnceMended words (λ ms. IsSome (open_from a 0 ms))

-- The pager has heard these words, and these are the pages that have ended.
pub record HasHeard (p : Pager) (words : List ℕ) (ps : List Page) : Type 0 where
  pub stands : HasFollowed p words
  pub ended : HaveEnded words (pager_address p) ps

-- Where the call answers, the pager has heard the words of the bytes more, and their pages were kept behind the others;
-- where it does not, memory was wanting. The address stays.
abbrev pub Hears : {T : Type 0} → Result T PagerFault → (before after : Pager) → (pages_before pages_after : List Page) → List ℕ → Type 0
Hears result before after pages_before pages_after bytes = record {
  heard : (words : List ℕ) → HasHeard before words pages_before → OnOk result (HasHeard after (words ++ words_of bytes) pages_after);
  memory : (words : List ℕ) → HasHeard before words pages_before → IfErr result (λ e. e ≡ fault.OutOfMemory);
  address : pager_address after ≡ pager_address before;
}

-- Where the call does not answer, a page at least is shown of the words that were heard and of those of the bytes: memory is
-- wanted only for a page.
abbrev pub WantsForPage : {T : Type 0} → Result T PagerFault → (before : Pager) → (pages_before : List Page) → List ℕ → Type 0
WantsForPage result before pages_before bytes = (words : List ℕ) → HasHeard before words pages_before
    → OnErr result (ShowsSome (words ++ words_of bytes) (pager_address before))

-- So many places of a batch, from this one on, are all before the address's frame or all after it.
abbrev pub IsElsewhere : ℕ → ℕ → ℕ → Type 0
IsElsewhere a place count = (place + count ≤ 1 + 2 * (a % 8)) ⊎ ((3 + 2 * (a % 8) ≤ place) × (place + count ≤ 17))
