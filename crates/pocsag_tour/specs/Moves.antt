-- The arcs by number, this project's own: the early runs of the 136 classes, then their late runs, then
-- the idles of the 16 slots. Counts are functions from these numbers.
use Rattle.std.specs.Prelude.{◌≡◌, ◌≢◌, ℕ, ◌+◌, ◌-◌, ◌*◌, ◌/◌, ◌%◌, ◌<◌, ◌≤◌, ◌==◌, nat_lt, Bool, true, false, cond, List, length, slice_index}
use Rattle.pocsag_words.specs.declared.ending.End.{End}
use Rattle.pocsag_words.specs.declared.ending.End.TheVariants as ends
use Rattle.pocsag_slots.specs.declared.class.Classes.{Classes}
use Rattle.pocsag_slots.specs.declared.step.Step.{Step}
use Rattle.pocsag_slots.specs.declared.step.Step.TheVariants.{Idle as Stay, Run}
use Rattle.pocsag_slots.specs.Arcs.{runs}
use Rattle.pocsag_slots.specs.Loads.{load}
use Rattle.pocsag_slots.specs.Classes.{start_of, finish_of}
use Rattle.pocsag_slots.specs.Sums.{holds, sum_below}
use Rattle.pocsag_slots.specs.Tours.{AsksForLast, Leads, idles, LastAs}
use Rattle.pocsag_tour.specs.declared.fault.TourFault.{TourFault}
use Rattle.pocsag_tour.specs.declared.fault.TourFault.TheVariants.{Apart, Unclosed, OutOfMemory}

-- The first late run, the first idle, and how many arcs there are.
abbrev pub first_late : ℕ
first_late = 136

abbrev pub first_idle : ℕ
first_idle = 272

abbrev pub all_arcs : ℕ
all_arcs = 288

-- The boundaries that an arc leads from and to.
unfoldable pub arc_from : ℕ → ℕ
arc_from a = cond (nat_lt a first_late) (start_of a true) (cond (nat_lt a first_idle) (start_of (a - first_late) false) (a - first_idle))

unfoldable pub arc_to : ℕ → ℕ
arc_to a = cond (nat_lt a first_late) (finish_of a true)
    (cond (nat_lt a first_idle) (finish_of (a - first_late) false) ((a - first_idle + 1) % 16))

-- The step over it.
unfoldable pub step_of : ℕ → Step
step_of a = cond (nat_lt a first_late) (Run a true) (cond (nat_lt a first_idle) (Run (a - first_late) false) Stay)

-- How many of it there are under the choice.
unfoldable pub arc_count : Classes → (ℕ → ℕ) → ℕ → ℕ → ℕ
arc_count k choice batches a =
    cond (nat_lt a first_late) (choice a)
    (cond (nat_lt a first_idle) (slice_index k.count (a - first_late) - choice (a - first_late)) (batches - load k choice (a - first_idle)))

abbrev pub AreCounts : Classes → (ℕ → ℕ) → ℕ → (ℕ → ℕ) → Type 0
AreCounts k choice batches counts = (a : ℕ) → a < all_arcs → counts a ≡ arc_count k choice batches a

-- How often steps from boundary 0 take an arc.
unfoldable pub taken : ℕ → List Step → ℕ
taken a steps = cond (nat_lt a first_late) (runs a true steps)
    (cond (nat_lt a first_idle) (runs (a - first_late) false steps) (idles (a - first_idle) 0 steps))

-- The arcs of a boundary by their kind: a run of each rest, the run of an address codeword alone, the idle.
unfoldable pub arc_at : ℕ → ℕ → ℕ
arc_at p kind = cond (kind == 17) (first_idle + p) (p % 2 * first_late + cond (kind == 16) (128 + p / 2) (16 * (p / 2) + kind))

-- How many arcs leave a boundary, and how many lead to it.
unfoldable pub outs : (ℕ → ℕ) → ℕ → ℕ
outs left q = sum_below all_arcs (λ a. cond (arc_from a == q) (left a) 0)

unfoldable pub ins : (ℕ → ℕ) → ℕ → ℕ
ins left q = sum_below all_arcs (λ a. cond (arc_to a == q) (left a) 0)

-- What is left of a way that has reached p and is to end at root.
abbrev pub IsBalanced : (ℕ → ℕ) → (p root : ℕ) → Type 0
IsBalanced left p root = (q : ℕ) → q < 16 → outs left q + cond (q == root) 1 0 ≡ ins left q + cond (q == p) 1 0

-- Nothing leaves a boundary any more.
abbrev pub IsSpent : (ℕ → ℕ) → ℕ → Type 0
IsSpent left p = (a : ℕ) → a < all_arcs → arc_from a ≡ p → left a ≡ 0

-- A set that no arc leaves, or that none enters.
abbrev pub NoneLeaves : (ℕ → ℕ) → ℕ → Type 0
NoneLeaves counts set = (a : ℕ) → a < all_arcs → 0 < counts a → holds set (arc_from a) ≡ true → holds set (arc_to a) ≡ true

abbrev pub NoneEnters : (ℕ → ℕ) → ℕ → Type 0
NoneEnters counts set = (a : ℕ) → a < all_arcs → 0 < counts a → holds set (arc_to a) ≡ true → holds set (arc_from a) ≡ true

-- Each run of the choice starts in the set.
abbrev pub RunsStart : (ℕ → ℕ) → ℕ → Type 0
RunsStart counts set = (a : ℕ) → a < first_idle → 0 < counts a → holds set (arc_from a) ≡ true

-- An arc is one of these.
abbrev pub IsAmong : ℕ → List ℕ → Type 0
IsAmong a arcs = (k : ℕ) × (k < length arcs) × (slice_index arcs k ≡ a)

-- Of the arcs before this number these are all of which there are some.
pub record AreUsed (counts : ℕ → ℕ) (limit : ℕ) (arcs : List ℕ) : Type 0 where
  pub known : (k : ℕ) → k < length arcs → slice_index arcs k < limit
  pub some : (k : ℕ) → k < length arcs → 0 < counts (slice_index arcs k)
  pub all : (a : ℕ) → a < limit → 0 < counts a → IsAmong a arcs

-- An arc that enters the set.
pub record IsEntering (counts : ℕ → ℕ) (set a : ℕ) : Type 0 where
  pub known : a < all_arcs
  pub there : 0 < counts a
  pub from : holds set (arc_from a) ≡ false
  pub to : holds set (arc_to a) ≡ true

-- The boundaries that are reached from boundary 0 over arcs by number.
pub data Visited (counts : ℕ → ℕ) : ℕ → Type 0 where
  at_start : Visited counts 0
  by_arc : (a : ℕ) → a < all_arcs → 0 < counts a → Visited counts (arc_from a) → Visited counts (arc_to a)

-- The last exit of a boundary: the arc that is left for last there.
pub record IsExit (counts exits : ℕ → ℕ) (q : ℕ) : Type 0 where
  pub known : exits q < all_arcs
  pub leaves : arc_from (exits q) ≡ q
  pub there : 0 < counts (exits q)

-- The last exits lead from the boundary to root, within the set.
pub data LeadsToRoot (counts exits : ℕ → ℕ) (root set : ℕ) : ℕ → Type 0 where
  at_root : LeadsToRoot counts exits root set root
  by_exit : (q : ℕ) → holds set q ≡ true → IsExit counts exits q →
      LeadsToRoot counts exits root set (arc_to (exits q)) → LeadsToRoot counts exits root set q

abbrev pub ExitsLeadToRoot : (ℕ → ℕ) → (ℕ → ℕ) → ℕ → ℕ → Type 0
ExitsLeadToRoot counts exits root set = (q : ℕ) → q < 16 → holds set q ≡ true → LeadsToRoot counts exits root set q

-- Whatever holds root and is entered by no arc holds the starts of all arcs.
abbrev pub AllLeadTo : (ℕ → ℕ) → ℕ → Type 0
AllLeadTo counts root = (set : ℕ) → holds set root ≡ true → NoneEnters counts set →
    (a : ℕ) → a < all_arcs → 0 < counts a → holds set (arc_from a) ≡ true

-- An arc to take next from a boundary: its last exit only where no other arc is left.
pub record IsDeparture (left : ℕ → ℕ) (exit p a : ℕ) : Type 0 where
  pub known : a < all_arcs
  pub there : 0 < left a
  pub leaves : arc_from a ≡ p
  pub last : a ≡ exit → (b : ℕ) → b < all_arcs → arc_from b ≡ p → b ≢ exit → left b ≡ 0

-- The steps lead from boundary 0 to p, and take each arc as often as it is counted.
pub record IsWay (counts : ℕ → ℕ) (p : ℕ) (steps : List Step) : Type 0 where
  pub leads : Leads 0 steps p
  pub takes : (a : ℕ) → a < all_arcs → taken a steps ≡ counts a
  pub no_other : (c : ℕ) (e : Bool) → 136 ≤ c → runs c e steps ≡ 0

-- A walk along the arcs, with what is left of them.
pub record IsWalk (counts exits left : ℕ → ℕ) (steps : List Step) (p root : ℕ) : Type 0 where
  pub leads : Leads 0 steps p
  pub within : p < 16
  pub balanced : IsBalanced left p root
  pub uses : (a : ℕ) → a < all_arcs → taken a steps + left a ≡ counts a
  pub no_other : (c : ℕ) (e : Bool) → 136 ≤ c → runs c e steps ≡ 0
  pub kept : (q : ℕ) → IsExit counts exits q → left (exits q) ≡ 0 → IsSpent left q

-- An arc that a tour can take last: it leads from the last boundary to boundary 0.
pub record IsClosing (counts : ℕ → ℕ) (a : ℕ) : Type 0 where
  pub known : a < all_arcs
  pub there : 0 < counts a
  pub from : arc_from a ≡ 15
  pub to : arc_to a ≡ 0

-- What is known where the runs are not apart, and yet no way for the end was given: memory is wanted only
-- where there is one.
abbrev pub NoWay : (ℕ → ℕ) → End → TourFault → Type 0
NoWay counts end (Apart set) = ⊥
NoWay counts end Unclosed =
    AsksForLast end × (counts 287 ≡ 0) × (end ≡ ends.Closed → counts 271 ≡ 0) × ((steps : List Step) × IsWay counts 0 steps)
NoWay counts end OutOfMemory = (steps : List Step) × (IsWay counts 0 steps × LastAs end steps)
