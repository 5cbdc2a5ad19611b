-- *Shape of the search's trees*, this project's own: under which limits the nodes of a tree stand, where
-- so many batches are asked for.
use Rattle.std.specs.Prelude.{◌≡◌, ℕ, ◌+◌, ◌-◌, ◌<◌, true, false, List, [], ◌∷◌, slice_index}
use Rattle.pocsag_words.specs.declared.ending.End.{End}
use Rattle.pocsag_tree.specs.BoundTrees.{BoundTree, BoundTrees, overload, split, cut, close, unexamined, none, more}
use Rattle.pocsag_slots.specs.declared.class.Classes.{Classes}
use Rattle.pocsag_slots.specs.declared.limit.Limits.{Limits}
use Rattle.pocsag_slots.specs.declared.way.Way.{Way}
use Rattle.pocsag_slots.specs.Loads.{IsAdmitted, Overloads, limits_of_all}
use Rattle.pocsag_slots.specs.Sums.{IsSet}
use Rattle.pocsag_slots.specs.Ways.{class_certain, ways_across, ways_to_close, narrowed_limits, limits_below, limits_from}
use Rattle.pocsag_tour.specs.Reached.{HasRunOutside, IsApart, IsUnclosed}

-- No class is certain for the set.
abbrev pub NoneCertain : Classes → Limits → ℕ → Type 0
NoneCertain k l set = (c : ℕ) → c < 136 → class_certain k l set c ≡ false

-- The limits admit a choice that has a run outside the set, and the set is all that it reaches.
pub record AdmitApart (k : Classes) (batches : ℕ) (l : Limits) (set : ℕ) : Type 0 where
  pub choice : ℕ → ℕ
  pub admitted : IsAdmitted k l choice
  pub apart : IsApart k choice batches set

-- A class with a run outside the set is split at 1 where an early run of it is outside, and otherwise at
-- its count.
pub data SplitsAt (k : Classes) (choice : ℕ → ℕ) (set c m : ℕ) : Type 0 where
  at_one : HasRunOutside k choice set c true → m ≡ 1 → SplitsAt k choice set c m
  at_count : ¬ HasRunOutside k choice set c true → HasRunOutside k choice set c false →
      m ≡ slice_index k.count c → SplitsAt k choice set c m

-- The limits admit such a choice, no class is certain for its set, and the class is split there.
pub record AdmitSplit (k : Classes) (batches : ℕ) (l : Limits) (c m : ℕ) : Type 0 where
  pub choice : ℕ → ℕ
  pub set : ℕ
  pub admitted : IsAdmitted k l choice
  pub apart : IsApart k choice batches set
  pub uncertain : NoneCertain k l set
  pub splits : SplitsAt k choice set c m

-- The limits admit a choice with a tour for the open end and none for this end.
pub record AdmitUnclosed (k : Classes) (end : End) (batches : ℕ) (l : Limits) : Type 0 where
  pub choice : ℕ → ℕ
  pub admitted : IsAdmitted k l choice
  pub unclosed : IsUnclosed k end choice batches

abbrev mutual
  -- Each `Cut`, `Split` and `Close` of the tree stands under limits that admit such a choice.
  pub IsShaped : Classes → End → ℕ → Limits → BoundTree → Type 0
  IsShaped k end batches l (overload set) = Unit {0}
  IsShaped k end batches l (split c m below above) =
      AdmitSplit k batches l c m × IsShaped k end batches (limits_below l c m) below
      × IsShaped k end batches (limits_from l c m) above
  IsShaped k end batches l (cut set c children) =
      AdmitApart k batches l set × AreShaped k end batches l (ways_across k l set) children
  IsShaped k end batches l (close children) =
      AdmitUnclosed k end batches l × AreShaped k end batches l (ways_to_close k end l) children
  IsShaped k end batches l unexamined = Unit {0}

  -- Each way has its child, in order, of that shape under the limits that the way leaves.
  pub AreShaped : Classes → End → ℕ → Limits → List Way → BoundTrees → Type 0
  AreShaped k end batches l [] none = Unit {0}
  AreShaped k end batches l [] (more t ts) = ⊥
  AreShaped k end batches l (w ∷ ws) none = ⊥
  AreShaped k end batches l (w ∷ ws) (more t ts) =
      IsShaped k end batches (narrowed_limits k l w batches) t × AreShaped k end batches l ws ts

-- The set refuses one batch less: each choice loads it above what its slots hold in so many batches but one.
pub record RefusesOneLess (k : Classes) (batches set : ℕ) : Type 0 where
  pub some : 0 < batches
  pub slots : IsSet set
  pub over : Overloads k (limits_of_all k (batches - 1)) set

-- The tree is one `Overload`, of a set that refuses one batch less.
pub record IsOneOverload (k : Classes) (batches : ℕ) (tree : BoundTree) : Type 0 where
  pub set : ℕ
  pub refuses : RefusesOneLess k batches set
  pub one_node : tree ≡ overload set

-- A tree of the search for the end, where some choice of starts needs `least` batches at least, and so many are
-- answered.
pub data IsSearchTree (k : Classes) (end : End) (least batches : ℕ) (tree : BoundTree) : Type 0 where
  -- Where the least is answered, the tree is one `Overload`, of a set that refuses one batch less;
  at_least : batches ≡ least → IsOneOverload k least tree → IsSearchTree k end least batches tree
  -- and where one batch more is, each node stands where the shape allows it, under the limits of the least.
  one_more :
      batches ≡ least + 1 → IsShaped k end least (limits_of_all k least) tree → IsSearchTree k end least batches tree
