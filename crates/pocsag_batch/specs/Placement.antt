-- *Layout* of a tour: which page each run is, and the codewords of the steps in order.
use Rattle.std.specs.Prelude.{◌≡◌, ℕ, ◌<◌, ◌==◌, List, [], ◌∷◌, ◌++◌, length, map, filter, slice_index_or, IsPermutation}
use Rattle.std.specs.List.{range_with_len}
use Rattle.pocsag_words.specs.declared.codeword.Kind.{Kind}
use Rattle.pocsag_words.specs.declared.codeword.Kind.TheVariants.{Idle}
use Rattle.pocsag_words.specs.declared.ending.End.{End}
use Rattle.pocsag_pages.specs.declared.page.Page.{Page}
use Rattle.pocsag_pages.specs.Reading.{page_words}
use Rattle.pocsag_slots.specs.declared.step.Step.{Step}
use Rattle.pocsag_slots.specs.declared.step.Step.TheVariants.{Idle as Stay, Run}
use Rattle.pocsag_slots.specs.Classes.{class_of_page}

-- The page at a place of the round, and its class.
abbrev pub page_at : List Page → ℕ → Page
page_at R k = slice_index_or R k (record { address = 0; function = 0; payload = [] })

abbrev pub class_at : End → List Page → ℕ → ℕ
class_at end R k = class_of_page end (page_at R k)

-- Those of the places whose pages are of the class.
abbrev pub places_of : End → List Page → ℕ → List ℕ → List ℕ
places_of end R c places = filter (λ k. class_at end R k == c) places

-- All places of the round, in order.
abbrev pub all_places : List Page → List ℕ
all_places R = range_with_len 0 (length R)

-- The classes of the runs.
abbrev pub run_classes : List Step → List ℕ
run_classes [] = []
run_classes (Stay ∷ ss) = run_classes ss
run_classes (Run c early ∷ ss) = c ∷ run_classes ss

-- *Order of a layout*: for each run of the steps, in order, the place in the round of the page that it
-- is. Each place of the round is there once, each run is a page of its class, and the pages of a class
-- are in the order of the round.
pub record IsOrder (end : End) (R : List Page) (steps : List Step) (order : List ℕ) : Type 0 where
  pub once : IsPermutation (all_places R) order
  pub classes : map (class_at end R) order ≡ run_classes steps
  pub in_turn : (c : ℕ) → places_of end R c order ≡ places_of end R c (all_places R)

-- There is a place in a round of so many pages for each run.
abbrev pub HavePlaces : ℕ → List ℕ → List Step → Type 0
HavePlaces pages order [] = Unit {0}
HavePlaces pages order (Stay ∷ ss) = HavePlaces pages order ss
HavePlaces pages [] (Run c early ∷ ss) = ⊥
HavePlaces pages (k ∷ order) (Run c early ∷ ss) = (k < pages) × HavePlaces pages order ss

-- The codewords of the steps, where the runs in order are the pages at these places.
abbrev pub laid_by : List Page → List ℕ → List Step → List Kind
laid_by R order [] = []
laid_by R order (Stay ∷ ss) = Idle ∷ laid_by R order ss
laid_by R [] (Run c early ∷ ss) = []
laid_by R (k ∷ order) (Run c early ∷ ss) = page_words (page_at R k) ++ laid_by R order ss
