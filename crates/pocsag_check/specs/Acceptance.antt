-- *Accepted*, this project's own: which bound trees show that fewer batches do not suffice.
use Rattle.std.specs.Prelude.{ℕ, ◌-◌, ◌^◌, ◌<◌, ◌≤◌, Bool, IsTrue, List, [], ◌∷◌, slice_index}
use Rattle.pocsag_words.specs.declared.ending.End.{End}
use Rattle.pocsag_tree.specs.Limits.{greatest_depth}
use Rattle.pocsag_tree.specs.BoundTrees.{BoundTree, BoundTrees, deepest, depth_of, overload, split, cut, close, unexamined, none, more}
use Rattle.pocsag_slots.specs.declared.class.Classes.{Classes}
use Rattle.pocsag_slots.specs.declared.limit.Limits.{Limits}
use Rattle.pocsag_slots.specs.declared.way.Way.{Way}
use Rattle.pocsag_pages.specs.declared.page.Page.{Page}
use Rattle.pocsag_slots.specs.Loads.{AreClassesOf, Overloads, limits_of_all}
use Rattle.pocsag_slots.specs.Sums.{IsSet, holds}
use Rattle.pocsag_slots.specs.Tours.{AsksForLast}
use Rattle.pocsag_slots.specs.Ways.{class_certain, ways_across, ways_to_close, narrowed_limits, limits_below, limits_from}

abbrev mutual
  -- The node shows that no transmission of b batches, legal for the end, meets the limits; the first
  -- argument says whether a node that was not examined is accepted.
  pub Accepts : Bool → Classes → End → ℕ → Limits → BoundTree → Type 0
  Accepts takes_open k end b l (overload set) = IsSet set × Overloads k l set
  Accepts takes_open k end b l (split c m below above) =
      (c < 136) × (slice_index l.lo c < m) × (m ≤ slice_index l.hi c)
      × Accepts takes_open k end b (limits_below l c m) below
      × Accepts takes_open k end b (limits_from l c m) above
  Accepts takes_open k end b l (cut set c children) =
      (c < 136) × (1 ≤ b) × IsTrue (holds set 0) × IsTrue (class_certain k l set c) × (set < 2 ^ 16)
      × AcceptsEach takes_open k end b l (ways_across k l set) children
  Accepts takes_open k end b l (close children) =
      AsksForLast end × (1 ≤ b) × AcceptsEach takes_open k end b l (ways_to_close k end l) children
  Accepts takes_open k end b l unexamined = IsTrue takes_open

  -- Each way has its child, in order, accepted under the limits that the way leaves.
  pub AcceptsEach : Bool → Classes → End → ℕ → Limits → List Way → BoundTrees → Type 0
  AcceptsEach takes_open k end b l [] none = Unit {0}
  AcceptsEach takes_open k end b l [] (more t ts) = ⊥
  AcceptsEach takes_open k end b l (w ∷ ws) none = ⊥
  AcceptsEach takes_open k end b l (w ∷ ws) (more t ts) =
      Accepts takes_open k end b (narrowed_limits k l w b) t × AcceptsEach takes_open k end b l ws ts

-- The tree shows that fewer than so many batches do not suffice: a transmission with fewer can be
-- lengthened by batches of idles, so that one batch less is the only case.
abbrev pub AcceptsRoot : Bool → Classes → End → ℕ → BoundTree → Type 0
AcceptsRoot takes_open k end batches t =
    Accepts takes_open k end (batches - 1) (limits_of_all k (batches - 1)) t

-- The same of a tree of at most this depth, and of a row of such trees.
abbrev pub AcceptsWithin : Bool → Classes → End → ℕ → Limits → ℕ → BoundTree → Type 0
AcceptsWithin takes_open k end b l depth t = (depth_of t ≤ depth) × Accepts takes_open k end b l t

abbrev pub AcceptsEachWithin : Bool → Classes → End → ℕ → Limits → ℕ → List Way → BoundTrees → Type 0
AcceptsEachWithin takes_open k end b l depth ws ts = (deepest ts ≤ depth) × AcceptsEach takes_open k end b l ws ts

-- *Accepted*: the tree is at most so deep, the batches are at least 1, and the root is accepted.
pub record IsAccepted (takes_open : Bool) (k : Classes) (end : End) (batches : ℕ) (t : BoundTree) : Type 0 where
  pub some : 0 < batches
  pub shallow : depth_of t ≤ greatest_depth
  pub root : AcceptsRoot takes_open k end batches t

-- The same for the pages of a round, whose classes are counted for the end.
pub record IsAcceptedFor (takes_open : Bool) (end : End) (R : List Page) (batches : ℕ) (t : BoundTree) : Type 0 where
  pub table : Classes
  pub counted : AreClassesOf table end R
  pub accepted : IsAccepted takes_open table end batches t
