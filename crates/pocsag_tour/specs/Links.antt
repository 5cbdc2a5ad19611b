-- Links: to which boundaries an arc leads from each boundary. Links are a function from boundaries to sets
-- of boundaries.
use Rattle.std.specs.Prelude.{◌≡◌, ◌⊎◌, ℕ, ◌+◌, ◌%◌, ◌<◌, Bool, true}
use Rattle.pocsag_slots.specs.declared.class.Classes.{Classes}
use Rattle.pocsag_slots.specs.Loads.{load}
use Rattle.pocsag_slots.specs.Classes.{start_of, finish_of}
use Rattle.pocsag_slots.specs.Sums.{holds}
use Rattle.pocsag_tour.specs.Reached.{runs_of}

-- A run of the choice, or an idle, leads from one boundary to the other.
pub data IsLinked (k : Classes) (choice : ℕ → ℕ) (batches : ℕ) : ℕ → ℕ → Type 0 where
  by_idle : (slot : ℕ) → slot < 16 → load k choice slot < batches → IsLinked k choice batches slot ((slot + 1) % 16)
  by_run : (c : ℕ) (early : Bool) → c < 136 → 0 < runs_of k choice c early →
      IsLinked k choice batches (start_of c early) (finish_of c early)

-- Each link is a run or an idle.
abbrev pub AreLinked : Classes → (ℕ → ℕ) → ℕ → (ℕ → ℕ) → Type 0
AreLinked k choice batches links =
    (p q : ℕ) → p < 16 → holds (links p) q ≡ true → IsLinked k choice batches p q

-- The runs of the classes below n are links, and the idles of the slots below n.
abbrev pub HaveRuns : Classes → (ℕ → ℕ) → (ℕ → ℕ) → ℕ → Type 0
HaveRuns k choice links n =
    (c : ℕ) (early : Bool) → c < n → 0 < runs_of k choice c early →
    holds (links (start_of c early)) (finish_of c early) ≡ true

abbrev pub HaveIdles : Classes → (ℕ → ℕ) → ℕ → (ℕ → ℕ) → ℕ → Type 0
HaveIdles k choice batches links n =
    (slot : ℕ) → slot < n → load k choice slot < batches → holds (links slot) ((slot + 1) % 16) ≡ true

-- The links with one more, where it is there.
pub record AddsLink (there : Bool) (links more : ℕ → ℕ) (from to : ℕ) : Type 0 where
  pub held : there ≡ true → holds (more from) to ≡ true
  pub kept : (p q : ℕ) → p < 16 → holds (links p) q ≡ true → holds (more p) q ≡ true
  pub only : (p q : ℕ) → p < 16 → holds (more p) q ≡ true →
      (holds (links p) q ≡ true) ⊎ ((there ≡ true) × (p ≡ from) × (q ≡ to))

-- The boundaries to which links lead from boundary 0, one after another.
pub data IsLed (links : ℕ → ℕ) : ℕ → Type 0 where
  at_start : IsLed links 0
  by_link : (p q : ℕ) → p < 16 → holds (links p) q ≡ true → IsLed links p → IsLed links q

-- The set has what the smaller set has, and what one link leads to from there; and it has nothing to which
-- no link leads.
pub record Follows (links : ℕ → ℕ) (set more : ℕ) : Type 0 where
  pub kept : (q : ℕ) → holds set q ≡ true → holds more q ≡ true
  pub linked : (p q : ℕ) → p < 16 → holds set p ≡ true → holds (links p) q ≡ true → holds more q ≡ true
  pub led : ((q : ℕ) → holds set q ≡ true → IsLed links q) → (q : ℕ) → holds more q ≡ true → IsLed links q
