-- The nodes of a tree in the order of the certificate's text: a node, and then each child with all below it.
use Rattle.std.specs.Prelude.{Bool, true, false, List, [], ◌∷◌, ◌++◌, ◌||◌}
use Rattle.pocsag_tree.specs.BoundTrees.{BoundTree, BoundTrees, overload, split, cut, close, unexamined, none, more}

abbrev mutual
  -- Which nodes are `Open`.
  pub opens : BoundTree → List Bool
  opens (overload set) = false ∷ []
  opens (split class m below above) = false ∷ (opens below ++ opens above)
  opens (cut set needed children) = false ∷ opens_in children
  opens (close children) = false ∷ opens_in children
  opens unexamined = true ∷ []

  pub opens_in : BoundTrees → List Bool
  opens_in none = []
  opens_in (more t ts) = opens t ++ opens_in ts

abbrev mutual
  -- Whether some node is `Open`.
  pub has_open : BoundTree → Bool
  has_open (overload set) = false
  has_open (split class m below above) = has_open below || has_open above
  has_open (cut set needed children) = have_open children
  has_open (close children) = have_open children
  has_open unexamined = true

  pub have_open : BoundTrees → Bool
  have_open none = false
  have_open (more t ts) = has_open t || have_open ts
