-- How contracts see a tree: its nodes, without where they lie in memory.
use Rattle.std.specs.Prelude.{List, [], ◌∷◌, map}
use Rattle.pocsag_tree.specs.declared.shape.Tree.{Tree}
use Rattle.pocsag_tree.specs.declared.shape.Tree.TheOpen.{Tree-F}
use Rattle.pocsag_tree.specs.declared.shape.Tree.TheFolds.{fold-Tree}
use Rattle.pocsag_tree.specs.declared.shape.Tree.TheOpen as layer
use Rattle.pocsag_tree.specs.BoundTrees.{BoundTree, BoundTrees, overload, split, cut, close, unexamined, none, more}

-- The row of these trees.
abbrev pub bounds_from : List BoundTree → BoundTrees
bounds_from [] = none
bounds_from (t ∷ ts) = more t (bounds_from ts)

-- One node, with what each child is seen as in its place.
abbrev pub bound_step : Tree-F BoundTree → BoundTree
bound_step (layer.Overload set) = overload set
bound_step (layer.Split class m below above) = split class m below.value above.value
bound_step (layer.Cut set needed children) = cut set needed (bounds_from children.items)
bound_step (layer.Close children) = close (bounds_from children.items)
bound_step layer.Open = unexamined

-- The tree, node by node.
abbrev pub bound_tree_of : Tree → BoundTree
bound_tree_of = fold-Tree BoundTree bound_step

-- The row of several trees.
abbrev pub bounds_of : List Tree → BoundTrees
bounds_of ts = bounds_from (map bound_tree_of ts)
