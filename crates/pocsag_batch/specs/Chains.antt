-- Queues of places in one list: each place has the next one.
use Rattle.std.specs.Prelude.{◌≡◌, ℕ, ◌<◌, List, [], ◌∷◌, length, slice_index}
use Rattle.pocsag_words.specs.declared.ending.End.{End}
use Rattle.pocsag_pages.specs.declared.page.Page.{Page}
use Rattle.pocsag_batch.specs.Placement.{places_of}

-- The places, one after another, by the list of next places, the first of them here.
abbrev pub IsChain : List ℕ → ℕ → List ℕ → Type 0
IsChain next place [] = Unit {0}
IsChain next place (k ∷ ks) = (place ≡ k) × (k < length next) × IsChain next (slice_index next k) ks

-- The next place of each place, and the first place of each class.
pub record Links : Type 0 where
  pub next : List ℕ
  pub head : List ℕ

-- For each class, a queue of those of the places whose pages are of the class.
pub record AreChains (end : End) (R : List Page) (links : Links) (places : List ℕ) : Type 0 where
  pub long : length links.head ≡ 136
  pub chain : (c : ℕ) → c < 136 → IsChain links.next (slice_index links.head c) (places_of end R c places)
