-- What is reached from boundary 0, and when a choice has no tour, by *Arc* and *Tour*.
use Rattle.std.specs.Prelude.{◌≡◌, ◌↔◌, ℕ, ◌+◌, ◌-◌, ◌%◌, ◌<◌, Bool, true, false, cond, List, slice_index}
use Rattle.pocsag_words.specs.declared.ending.End.{End}
use Rattle.pocsag_words.specs.declared.ending.End.TheVariants as ends
use Rattle.pocsag_slots.specs.declared.class.Classes.{Classes}
use Rattle.pocsag_slots.specs.declared.step.Step.{Step}
use Rattle.pocsag_slots.specs.Loads.{load}
use Rattle.pocsag_slots.specs.Classes.{start_of, finish_of}
use Rattle.pocsag_slots.specs.Sums.{holds}
use Rattle.pocsag_slots.specs.Tours.{AsksForLast, IsTour}
use Rattle.pocsag_slots.specs.Ways.{run_crosses, idle_crosses}
use Rattle.pocsag_tour.specs.declared.fault.TourFault.{TourFault}
use Rattle.pocsag_tour.specs.declared.fault.TourFault.TheVariants.{Apart, Unclosed, OutOfMemory}

-- How many runs of a class start early, or late.
unfoldable pub runs_of : Classes → (ℕ → ℕ) → ℕ → Bool → ℕ
runs_of k choice c early = cond early (choice c) (slice_index k.count c - choice c)

-- The boundaries that are reached from boundary 0 over the runs of the choice and its idles: a slot has
-- an idle where its load is below the batches.
pub data IsReached (k : Classes) (choice : ℕ → ℕ) (batches : ℕ) : ℕ → Type 0 where
  at_start : IsReached k choice batches 0
  by_idle : (slot : ℕ) → slot < 16 → load k choice slot < batches → IsReached k choice batches slot →
      IsReached k choice batches ((slot + 1) % 16)
  by_run : (c : ℕ) (early : Bool) → c < 136 → 0 < runs_of k choice c early →
      IsReached k choice batches (start_of c early) → IsReached k choice batches (finish_of c early)

-- The choice has an early, or a late, run of the class, and both its ends are outside the set.
pub record HasRunOutside (k : Classes) (choice : ℕ → ℕ) (set class : ℕ) (early : Bool) : Type 0 where
  pub known : class < 136
  pub there : 0 < runs_of k choice class early
  pub starts : holds set (start_of class early) ≡ false
  pub finishes : holds set (finish_of class early) ≡ false

-- Some run of the choice has both its ends outside the set.
pub record LiesOutside (k : Classes) (choice : ℕ → ℕ) (set : ℕ) : Type 0 where
  pub class : ℕ
  pub early : Bool
  pub run : HasRunOutside k choice set class early

-- The set is exactly the boundaries that are reached.
abbrev pub AreReached : Classes → (ℕ → ℕ) → ℕ → ℕ → Type 0
AreReached k choice batches set = (p : ℕ) → p < 16 → (holds set p ≡ true) ↔ IsReached k choice batches p

-- No run of the choice, and no idle, has exactly one end in the set.
abbrev pub NoRunCrosses : Classes → (ℕ → ℕ) → ℕ → Type 0
NoRunCrosses k choice set =
    (c : ℕ) (early : Bool) → c < 136 → 0 < runs_of k choice c early → run_crosses c early set ≡ false

abbrev pub NoIdleCrosses : Classes → (ℕ → ℕ) → ℕ → ℕ → Type 0
NoIdleCrosses k choice batches set =
    (slot : ℕ) → slot < 16 → load k choice slot < batches → idle_crosses slot set ≡ false

-- The set is exactly the boundaries that are reached, some run lies outside, and no arc crosses the set.
pub record IsApart (k : Classes) (choice : ℕ → ℕ) (batches set : ℕ) : Type 0 where
  pub exact : AreReached k choice batches set
  pub outside : LiesOutside k choice set
  pub no_run : NoRunCrosses k choice set
  pub no_idle : NoIdleCrosses k choice batches set

-- The choice has a tour for the open end, but no arc with which a tour for this end could end: no idle
-- in slot 15, and for the closed end no late run of class 135.
pub record IsUnclosed (k : Classes) (end : End) (choice : ℕ → ℕ) (batches : ℕ) : Type 0 where
  pub steps : List Step
  pub tour : IsTour k ends.Open choice batches steps
  pub no_idle : load k choice 15 ≡ batches
  pub no_late : end ≡ ends.Closed → runs_of k choice 135 false ≡ 0

-- What a refusal says; memory is wanted only where there is a tour.
abbrev pub IsRefused : Classes → (ℕ → ℕ) → ℕ → End → TourFault → Type 0
IsRefused k choice batches end (Apart set) = IsApart k choice batches set
IsRefused k choice batches end Unclosed = AsksForLast end × IsUnclosed k end choice batches
IsRefused k choice batches end OutOfMemory = (steps : List Step) × IsTour k end choice batches steps
