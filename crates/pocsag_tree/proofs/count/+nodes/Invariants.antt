use Rattle.pocsag_tree.proofs.Prelude.{◌≡◌, ◌+◌, ◌≤◌, drop, min, greatest_count, bounds_of, closed_nodes_in}
use Rattle.pocsag_tree.proofs.count.+nodes.Given as goal

-- the sum so far and the nodes of the trees that are left are the nodes of all the trees
abbrev pub invariant-nodes_in-loop-tree : goal.invariant-nodes_in-loop-tree
invariant-nodes_in-loop-tree l =
    (l.sum ≤ greatest_count)
    × (min (l.sum + closed_nodes_in (bounds_of (drop l.tree-index l.trees))) greatest_count
    ≡ min (closed_nodes_in (bounds_of l.trees)) greatest_count)
