-- *Load, limits, least*. A choice says how many pages of each class start early.
use Rattle.std.specs.Prelude.{◌≡◌, ℕ, ◌+◌, ◌-◌, ◌*◌, ◌<◌, ◌≤◌, true, false, List, slice_index, replicate, min}
use Rattle.pocsag_words.specs.declared.ending.End.{End}
use Rattle.pocsag_pages.specs.declared.page.Page.{Page}
use Rattle.pocsag_slots.specs.declared.class.Choice.{Choice}
use Rattle.pocsag_slots.specs.declared.class.Classes.{Classes}
use Rattle.pocsag_slots.specs.declared.limit.Limits.{Limits}
use Rattle.pocsag_slots.specs.Cover.{covered}
use Rattle.pocsag_slots.specs.Classes.{class_count, slot_count, class_rest, start_of, count_of, turns_of}
use Rattle.pocsag_slots.specs.Sums.{sum_below, sum_over}

-- The table counts the pages of the list.
pub record AreClassesOf (k : Classes) (end : End) (R : List Page) : Type 0 where
  pub count : (c : ℕ) → c < class_count → slice_index k.count c ≡ count_of end R c
  pub turns : (c : ℕ) → c < class_count → slice_index k.turns c ≡ turns_of end R c

-- How many times the runs of a class cover the slot, where so many of them start early.
unfoldable pub class_load : Classes → ℕ → ℕ → ℕ → ℕ
class_load k slot c early =
    slice_index k.turns c
    + early * covered (start_of c true) (class_rest c) slot
    + (slice_index k.count c - early) * covered (start_of c false) (class_rest c) slot

-- The load of a slot: how many times the runs cover it.
unfoldable pub load : Classes → (ℕ → ℕ) → ℕ → ℕ
load k choice slot = sum_below class_count (λ c. class_load k slot c (choice c))

-- The most that a slot is loaded: 88 times by each of 20,000 pages.
abbrev pub load_limit : ℕ
load_limit = 1760000

-- How many pages of each class start early by a choice.
abbrev pub early_of : Choice → ℕ → ℕ
early_of choice = slice_index choice.early

-- No more pages start early than there are.
abbrev pub IsChoice : Classes → (ℕ → ℕ) → Type 0
IsChoice k choice = (c : ℕ) → c < class_count → choice c ≤ slice_index k.count c

-- The limits bound the early counts one way each, and by the counts.
pub record AreInOrder (k : Classes) (l : Limits) : Type 0 where
  pub order : (c : ℕ) → c < class_count → slice_index l.lo c ≤ slice_index l.hi c
  pub counted : (c : ℕ) → c < class_count → slice_index l.hi c ≤ slice_index k.count c

-- The choice is within the limits; it is admitted when also no load exceeds its cap.
pub record IsWithin (l : Limits) (choice : ℕ → ℕ) : Type 0 where
  pub least : (c : ℕ) → c < class_count → slice_index l.lo c ≤ choice c
  pub most : (c : ℕ) → c < class_count → choice c ≤ slice_index l.hi c

pub record IsAdmitted (k : Classes) (l : Limits) (choice : ℕ → ℕ) : Type 0 where
  pub within : IsWithin l choice
  pub capped : (slot : ℕ) → slot < slot_count → load k choice slot ≤ slice_index l.cap slot

-- The limits that all choices are within, with one cap for each slot.
abbrev pub limits_of_all : Classes → ℕ → Limits
limits_of_all k batches = record { lo = replicate class_count 0; hi = k.count; cap = replicate slot_count batches }

-- The minimum, over all choices within the limits, of the summed loads of a set of slots.
pub record IsLeastLoad (k : Classes) (l : Limits) (set least : ℕ) : Type 0 where
  pub lower : (choice : ℕ → ℕ) → IsWithin l choice → least ≤ sum_over set (load k choice)
  pub met : (choice : ℕ → ℕ) × IsWithin l choice × (sum_over set (load k choice) ≡ least)

-- How much the runs of a class load a set of slots, where so many of them start early, and the smaller
-- of the two amounts at the ends of its limits.
unfoldable pub class_load_over : Classes → ℕ → ℕ → ℕ → ℕ
class_load_over k set c early = sum_over set (λ slot. class_load k slot c early)

unfoldable pub least_of_class : Classes → Limits → ℕ → ℕ → ℕ
least_of_class k l set c =
    min (class_load_over k set c (slice_index l.lo c)) (class_load_over k set c (slice_index l.hi c))

-- The load of a set of slots is the sum of what the runs of each class load it with.
abbrev pub ClassLoadsAddUp : Type 0
ClassLoadsAddUp =
    (k : Classes) (set : ℕ) (choice : ℕ → ℕ) →
    sum_over set (load k choice) ≡ sum_below class_count (λ c. class_load_over k set c (choice c))

-- Each choice within the limits loads the set above the sum of its caps.
abbrev pub Overloads : Classes → Limits → ℕ → Type 0
Overloads k l set =
    (choice : ℕ → ℕ) → IsWithin l choice → sum_over set (slice_index l.cap) < sum_over set (load k choice)

-- So many batches carry the choice: no load is above them.
abbrev pub AreCarried : Classes → (ℕ → ℕ) → ℕ → Type 0
AreCarried k choice batches = (slot : ℕ) → slot < slot_count → load k choice slot ≤ batches

-- Some choice loads no slot above b.
pub record IsCarriedBy (k : Classes) (b : ℕ) : Type 0 where
  pub choice : ℕ → ℕ
  pub among : IsChoice k choice
  pub loads : AreCarried k choice b

-- *Least*: the least b for which some choice loads no slot above b.
pub record IsLeast (k : Classes) (b : ℕ) : Type 0 where
  pub carried : IsCarriedBy k b
  pub least : (a : ℕ) → IsCarriedBy k a → b ≤ a
