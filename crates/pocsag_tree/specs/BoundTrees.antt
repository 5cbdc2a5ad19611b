-- Bound trees as contracts see them, without where they lie in memory, and their counts.
use Rattle.std.specs.Prelude.{ℕ, ◌+◌, ◌-◌, ◌^◌, max}

mutual
  -- A tree, node by node; a node that is not examined is `Open`.
  pub data BoundTree : Type 0 where
    overload : (set : ℕ) → BoundTree
    split : (class m : ℕ) → (below above : BoundTree) → BoundTree
    cut : (set needed : ℕ) → (children : BoundTrees) → BoundTree
    close : (children : BoundTrees) → BoundTree
    unexamined : BoundTree

  -- A row of children.
  pub data BoundTrees : Type 0 where
    none : BoundTrees
    more : BoundTree → BoundTrees → BoundTrees

-- How many children a row has.
abbrev pub children_count : BoundTrees → ℕ
children_count none = 0
children_count (more t ts) = children_count ts + 1

abbrev mutual
  -- How many nodes are not `Open`.
  pub closed_nodes : BoundTree → ℕ
  closed_nodes (overload set) = 1
  closed_nodes (split class m below above) = 1 + closed_nodes below + closed_nodes above
  closed_nodes (cut set needed children) = 1 + closed_nodes_in children
  closed_nodes (close children) = 1 + closed_nodes_in children
  closed_nodes unexamined = 0

  pub closed_nodes_in : BoundTrees → ℕ
  closed_nodes_in none = 0
  closed_nodes_in (more t ts) = closed_nodes t + closed_nodes_in ts

abbrev mutual
  -- How many nodes there are, `Open` counted.
  pub all_nodes : BoundTree → ℕ
  all_nodes (overload set) = 1
  all_nodes (split class m below above) = 1 + all_nodes below + all_nodes above
  all_nodes (cut set needed children) = 1 + all_nodes_in children
  all_nodes (close children) = 1 + all_nodes_in children
  all_nodes unexamined = 1

  pub all_nodes_in : BoundTrees → ℕ
  all_nodes_in none = 0
  all_nodes_in (more t ts) = all_nodes t + all_nodes_in ts

abbrev mutual
  -- How deep a tree is: a leaf has depth 1.
  pub depth_of : BoundTree → ℕ
  depth_of (overload set) = 1
  depth_of (split class m below above) = 1 + max (depth_of below) (depth_of above)
  depth_of (cut set needed children) = 1 + deepest children
  depth_of (close children) = 1 + deepest children
  depth_of unexamined = 1

  pub deepest : BoundTrees → ℕ
  deepest none = 0
  deepest (more t ts) = max (depth_of t) (deepest ts)

-- The greatest number of a `u64`, at which counts stay.
abbrev pub greatest_count : ℕ
greatest_count = 2 ^ 64 - 1
