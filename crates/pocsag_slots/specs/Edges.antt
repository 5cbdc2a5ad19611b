-- How many runs start at a boundary, how many end there, and how many times they cover slot 0.
use Rattle.std.specs.Prelude.{◌≡◌, ℕ, ◌+◌, ◌-◌, ◌<◌, ◌==◌, true, false, cond, List, slice_index}
use Rattle.pocsag_slots.specs.declared.class.Classes.{Classes}
use Rattle.pocsag_slots.specs.Loads.{class_load}
use Rattle.pocsag_slots.specs.Classes.{slot_count, start_of, finish_of}
use Rattle.pocsag_slots.specs.Sums.{sum_below}

-- The runs of a class that start at the boundary, and those that end there.
abbrev pub starts_at : Classes → (ℕ → ℕ) → ℕ → ℕ → ℕ
starts_at k choice p c =
    cond (start_of c true == p) (choice c) 0 + cond (start_of c false == p) (slice_index k.count c - choice c) 0

abbrev pub ends_at : Classes → (ℕ → ℕ) → ℕ → ℕ → ℕ
ends_at k choice p c =
    cond (finish_of c true == p) (choice c) 0 + cond (finish_of c false == p) (slice_index k.count c - choice c) 0

-- Of the first n classes, the list says of each boundary how many runs start there, or end there.
abbrev pub CountStarts : Classes → (ℕ → ℕ) → ℕ → List ℕ → Type 0
CountStarts k choice n starts = (p : ℕ) → p < slot_count → slice_index starts p ≡ sum_below n (starts_at k choice p)

abbrev pub CountEnds : Classes → (ℕ → ℕ) → ℕ → List ℕ → Type 0
CountEnds k choice n ends = (p : ℕ) → p < slot_count → slice_index ends p ≡ sum_below n (ends_at k choice p)

-- The runs of the first n classes cover slot 0 so many times.
abbrev pub LoadFirst : Classes → (ℕ → ℕ) → ℕ → ℕ → Type 0
LoadFirst k choice n first = first ≡ sum_below n (λ c. class_load k 0 c (choice c))
