use Rattle.pocsag_tree.proofs.Prelude.{◌≡◌, ◌+◌, ◌*◌, ◌≤◌, drop, most_nodes, second_ranges, all_nodes_in, deepest, bounds_of, AreInRange, ◌↔◌}
use Rattle.pocsag_tree.proofs.writer.+measured.Given as goal

abbrev pub decreases-measured : goal.decreases-measured
decreases-measured l = 3 * l.depth

abbrev pub decreases-measured_row : goal.decreases-measured_row
decreases-measured_row l = 3 * l.depth + 1

abbrev pub decreases-measured_node : goal.decreases-measured_node
decreases-measured_node l = 3 * l.depth + 2

-- the row has a text where the trees that are left have one, and so do the others
abbrev pub invariant-measured_row-loop-tree : goal.invariant-measured_row-loop-tree
invariant-measured_row-loop-tree l = record {
  few : l.reached ≤ most_nodes;
  counted : l.reached + all_nodes_in (bounds_of (drop l.tree-index l.trees)) ≡ l.nodes + all_nodes_in (bounds_of l.trees);
  left : (AreInRange second_ranges (bounds_of l.trees) × (deepest (bounds_of l.trees) ≤ l.depth))
      ↔ (AreInRange second_ranges (bounds_of (drop l.tree-index l.trees)) × (deepest (bounds_of (drop l.tree-index l.trees)) ≤ l.depth));
}
