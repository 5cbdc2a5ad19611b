-- What the search promises node by node.
use Rattle.std.specs.Prelude.{◌≡◌, ℕ, ◌+◌, ◌<◌, ◌≤◌, Bool, true, false, IsTrue, List, ◌++◌, All, replicate, slice_index}
use Rattle.pocsag_words.specs.declared.ending.End.{End}
use Rattle.pocsag_slots.specs.declared.class.Classes.{Classes}
use Rattle.pocsag_slots.specs.declared.limit.Limits.{Limits}
use Rattle.pocsag_slots.specs.declared.way.Way.{Way}
use Rattle.pocsag_slots.specs.Loads.{IsChoice, Overloads, limits_of_all}
use Rattle.pocsag_slots.specs.Sums.{IsSet}
use Rattle.pocsag_slots.specs.Tours.{AsksForLast, IsTour}
use Rattle.pocsag_slots.specs.Ways.{class_certain, ways_across, ways_to_close}
use Rattle.pocsag_tree.specs.BoundTrees.{BoundTree, BoundTrees, closed_nodes, closed_nodes_in, depth_of, deepest}
use Rattle.pocsag_tree.specs.Views.{bound_tree_of, bounds_of}
use Rattle.pocsag_check.specs.Acceptance.{Accepts, AcceptsEach}
use Rattle.pocsag_tour.specs.Reached.{IsApart, IsUnclosed}
use Rattle.pocsag_branch.specs.declared.node.Children.{Children}
use Rattle.pocsag_branch.specs.declared.node.Children.TheVariants.{Whole, Kept}
use Rattle.pocsag_branch.specs.declared.task.Answer.{Answer}
use Rattle.pocsag_branch.specs.declared.task.NodeKind.{NodeKind}
use Rattle.pocsag_branch.specs.declared.task.NodeKind.TheVariants.{Overload, Cut, Split, Close}
use Rattle.pocsag_branch.specs.declared.task.Task.{Task}
use Rattle.pocsag_branch.specs.declared.task.Stop.{Stop}
use Rattle.pocsag_branch.specs.declared.task.Stop.TheVariants.{Met, Limit, OutOfMemory}
use Rattle.pocsag_branch.specs.declared.task.NoTour.{NoTour}
use Rattle.pocsag_branch.specs.declared.task.NoTour.TheVariants.{Apart, Unclosed}
use Rattle.pocsag_branch.specs.Marks.{opens, opens_in}
use Rattle.pocsag_branch.specs.Shape.{AdmitApart, AdmitSplit, AdmitUnclosed, IsShaped, AreShaped}
use Rattle.pocsag_branch.specs.Undecided.{Falls, IsSplitPoint, undecided}

-- No round's least number of batches is greater.
abbrev pub greatest_least : ℕ
greatest_least = 1760000

-- A choice and its tour for the end with so many batches.
pub record IsAnswer (k : Classes) (end : End) (batches : ℕ) (answer : Answer) : Type 0 where
  pub choice : IsChoice k (slice_index answer.choice.early)
  pub tour : IsTour k end (slice_index answer.choice.early) batches answer.steps.items

-- Why an examination ends before its tree is whole; the fixed search does not end at its limit.
abbrev pub IsStop : Classes → Task → Stop → Type 0
IsStop k q (Met answer) = IsAnswer k q.end q.batches answer.value
IsStop k q Limit = q.fixed ≡ false
IsStop k q OutOfMemory = Unit {0}

-- Why a choice that the limits admit has no tour for the end; the ways to close settle questions then.
abbrev pub IsNoTour : Classes → Task → Limits → (ℕ → ℕ) → NoTour → Type 0
IsNoTour k q l choice (Apart set) = IsApart k choice q.batches set.members
IsNoTour k q l choice Unclosed =
    AsksForLast q.end × IsUnclosed k q.end choice q.batches × All (Falls k q.batches l) (ways_to_close k q.end l)

-- The node may be made there, and each of its children settles a question that is open.
abbrev pub IsNodeKind : Classes → Task → Limits → NodeKind → Type 0
IsNodeKind k q l (Overload set) = IsSet set × Overloads k l set
IsNodeKind k q l (Cut set needed) =
    IsTrue (class_certain k l set.members needed.number) × All (Falls k q.batches l) (ways_across k l set.members)
IsNodeKind k q l (Split c m) = IsSplitPoint k q.batches l c.number m
IsNodeKind k q l Close = AsksForLast q.end × All (Falls k q.batches l) (ways_to_close k q.end l)

-- The node stands there as *Shape of the search's trees* says.
abbrev pub IsNodeAs : Classes → Task → Limits → NodeKind → Type 0
IsNodeAs k q l (Overload set) = Unit {0}
IsNodeAs k q l (Cut set needed) = AdmitApart k q.batches l set.members
IsNodeAs k q l (Split c m) = AdmitSplit k q.batches l c.number m
IsNodeAs k q l Close = AdmitUnclosed k q.end q.batches l

-- The tree is accepted for the node, and no deeper than its limits leave questions open.
pub record IsRefuted (takes_open : Bool) (k : Classes) (end : End) (batches : ℕ) (l : Limits) (t : BoundTree) : Type 0 where
  pub accepted : Accepts takes_open k end batches l t
  pub deep : depth_of t ≤ 1 + undecided k batches l

-- The same of its children.
pub record AreRefuted (takes_open : Bool) (k : Classes) (end : End) (batches : ℕ) (l : Limits) (ws : List Way) (ts : BoundTrees) : Type 0 where
  pub accepted : AcceptsEach takes_open k end batches l ws ts
  pub deep : deepest ts ≤ undecided k batches l

-- Nodes were examined one by one, each in its turn, until the limit was reached; the marks say which are `Open`.
pub record Fills (limit made after : ℕ) (marks : List Bool) : Type 0 where
  pub closed : ℕ
  pub unseen : ℕ
  pub layout : marks ≡ replicate closed false ++ replicate unseen true
  pub spent : made + closed ≡ after
  pub within : after ≤ limit
  pub whole : 0 < unseen → after ≡ limit

-- What is required for a node, where so many were examined before it and so many after it: the limit is not
-- exceeded, and no node of the tree was left out of the count. The fixed search may leave nodes `Open`, and its trees
-- have the promised shape.
pub record IsExamined (k : Classes) (q : Task) (l : Limits) (made after : ℕ) (t : BoundTree) : Type 0 where
  pub refuted : IsRefuted q.fixed k q.end q.batches l t
  pub few : made + closed_nodes t ≤ after
  pub within : after ≤ q.limit
  pub shaped : q.fixed ≡ true → IsShaped k q.end q.batches l t
  pub fills : q.fixed ≡ true → Fills q.limit made after (opens t)

-- The same for its children.
pub record AreExamined (k : Classes) (q : Task) (l : Limits) (made after : ℕ) (ws : List Way) (ts : BoundTrees) : Type 0 where
  pub refuted : AreRefuted q.fixed k q.end q.batches l ws ts
  pub few : made + closed_nodes_in ts ≤ after
  pub within : after ≤ q.limit
  pub shaped : q.fixed ≡ true → AreShaped k q.end q.batches l ws ts
  pub fills : q.fixed ≡ true → Fills q.limit made after (opens_in ts)

-- The trees of all children, or, in the free search, the tree of one that stands for the node.
abbrev pub AreChildren : Classes → Task → Limits → ℕ → ℕ → List Way → Children → Type 0
AreChildren k q l made after ws (Whole children) = AreExamined k q l made after ws (bounds_of children.items)
AreChildren k q l made after ws (Kept tree) = (q.fixed ≡ false) × IsExamined k q l made after (bound_tree_of tree)

-- The whole tree of the fixed search from the limits of all choices.
pub record IsTreeOf (k : Classes) (q : Task) (t : BoundTree) : Type 0 where
  pub fixed : q.fixed ≡ true
  pub after : ℕ
  pub examined : IsExamined k q (limits_of_all k q.batches) 0 after t
