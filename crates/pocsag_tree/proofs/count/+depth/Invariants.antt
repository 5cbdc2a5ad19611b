use Rattle.pocsag_tree.proofs.Prelude.{◌≡◌, ◌≤◌, drop, min, max, deepest, greatest_count, bounds_of}
use Rattle.pocsag_tree.proofs.count.+depth.Given as goal

-- the greatest depth so far, and that of the trees that are left, make that of all the trees
abbrev pub invariant-deepest_of-loop-tree : goal.invariant-deepest_of-loop-tree
invariant-deepest_of-loop-tree l =
    (l.most ≤ greatest_count)
    × (min (max l.most (deepest (bounds_of (drop l.tree-index l.trees)))) greatest_count
    ≡ min (deepest (bounds_of l.trees)) greatest_count)
