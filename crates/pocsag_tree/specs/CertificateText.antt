-- *Certificate text*: the bytes of a certificate (this project's own). Numbers are written high byte
-- first.
use Rattle.std.specs.Prelude.{◌≡◌, ℕ, ◌^◌, ◌<◌, ◌≤◌, ◌⊎◌, List, [], ◌∷◌, ◌++◌}
use Rattle.std.specs.Int.{w16, w32, to_be_bytes}
use Rattle.pocsag_words.specs.declared.ending.End.{End}
use Rattle.pocsag_words.specs.declared.ending.End.TheVariants as ends
use Rattle.pocsag_tree.specs.declared.limits.Ranges.{Ranges}
use Rattle.pocsag_tree.specs.Limits.{first_ranges, second_ranges, greatest_depth, most_nodes}
use Rattle.pocsag_tree.specs.BoundTrees.{BoundTree, BoundTrees, overload, split, cut, close, unexamined, none, more, children_count, all_nodes, depth_of}

abbrev mutual
  -- Each field of the tree is in the range that the version gives it.
  pub IsInRange : Ranges → BoundTree → Type 0
  IsInRange r (overload set) = (1 ≤ set) × (set < 2 ^ 16)
  IsInRange r (split class m below above) = (class ≤ r.class) × (1 ≤ m) × (m ≤ r.m) × IsInRange r below × IsInRange r above
  IsInRange r (cut set needed children) = ((1 ≤ set) × (set < 2 ^ 16)) × (needed ≤ r.class) × (2 ≤ children_count children)
      × (children_count children ≤ r.children) × AreInRange r children
  IsInRange r (close children) = (4 ≤ r.tag) × (1 ≤ children_count children) × (children_count children ≤ 2) × AreInRange r children
  IsInRange r unexamined = Unit {0}

  pub AreInRange : Ranges → BoundTrees → Type 0
  AreInRange r none = Unit {0}
  AreInRange r (more t ts) = IsInRange r t × AreInRange r ts

-- What has a text in a version: every number is in its range, and the tree is neither too deep nor
-- too large.
pub record HasText (r : Ranges) (batches : ℕ) (tree : BoundTree) : Type 0 where
  pub some_batch : 1 ≤ batches
  pub four_bytes : batches < 2 ^ 32
  pub in_range : IsInRange r tree
  pub depth : depth_of tree ≤ greatest_depth
  pub nodes : all_nodes tree ≤ most_nodes

-- The tag and the fields of a `Split`, a `Cut` and a `Close` of so many children.
abbrev pub split_head : (class m : ℕ) → List ℕ
split_head class m = 1 ∷ class ∷ to_be_bytes w16 m

abbrev pub cut_head : (set needed children : ℕ) → List ℕ
cut_head set needed children = 2 ∷ to_be_bytes w16 set ++ needed ∷ to_be_bytes w16 children

abbrev pub close_head : (children : ℕ) → List ℕ
close_head children = 4 ∷ children ∷ []

abbrev mutual
  -- The bytes of a tree: each node's tag and fields, and then its children in order.
  pub node : BoundTree → List ℕ
  node (overload set) = 0 ∷ to_be_bytes w16 set
  node (split class m below above) = split_head class m ++ (node below ++ node above)
  node (cut set needed children) = cut_head set needed (children_count children) ++ row children
  node unexamined = 3 ∷ []
  node (close children) = close_head (children_count children) ++ row children

  pub row : BoundTrees → List ℕ
  row none = []
  row (more t ts) = node t ++ row ts

-- The version that is written for an end, and the end where the version has a byte for it: PCB2 (32) for
-- the open end (0) and the closed one (1), PCB4 (34) for the idle end.
abbrev pub version_bytes : End → List ℕ
version_bytes ends.Open = 0x32 ∷ 0 ∷ []
version_bytes ends.Closed = 0x32 ∷ 1 ∷ []
version_bytes ends.Idle = 0x34 ∷ []

-- The text that is written: the mark 50 43 42, the version with the end, the batches, and the tree.
abbrev pub written_head : End → ℕ → List ℕ
written_head end batches = 0x50 ∷ 0x43 ∷ 0x42 ∷ (version_bytes end ++ to_be_bytes w32 batches)

abbrev pub written_text : End → ℕ → BoundTree → List ℕ
written_text end batches tree = written_head end batches ++ node tree

-- The text in version PCB1, for the open end alone: the mark and 31, the batches, and the tree.
abbrev pub first_head : ℕ → List ℕ
first_head batches = 0x50 ∷ 0x43 ∷ 0x42 ∷ 0x31 ∷ to_be_bytes w32 batches

abbrev pub first_text : ℕ → BoundTree → List ℕ
first_text batches tree = first_head batches ++ node tree

-- The bytes are the text in PCB2 or in PCB4, as the end is, of something that has one.
pub record IsWrittenText (end : End) (batches : ℕ) (tree : BoundTree) (bytes : List ℕ) : Type 0 where
  pub has_text : HasText second_ranges batches tree
  pub text : bytes ≡ written_text end batches tree

-- The bytes are the text in PCB1 of something that has one.
pub record IsFirstText (end : End) (batches : ℕ) (tree : BoundTree) (bytes : List ℕ) : Type 0 where
  pub open_end : end ≡ ends.Open
  pub has_text : HasText first_ranges batches tree
  pub text : bytes ≡ first_text batches tree

-- The bytes are a certificate text of this end, number of batches and tree, in one of the versions.
abbrev pub IsText : End → ℕ → BoundTree → List ℕ → Type 0
IsText end batches tree bytes = IsWrittenText end batches tree bytes ⊎ IsFirstText end batches tree bytes
