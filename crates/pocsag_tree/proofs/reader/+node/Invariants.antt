use Rattle.pocsag_tree.proofs.Prelude.{◌≡◌, ◌+◌, ◌-◌, ◌*◌, ◌≤◌, ℕ, length, map, bound_tree_of, bounds_of, but_last, row_at, node_at, vec_len, vec_capacity, IsRowRead}
use Rattle.pocsag_tree.proofs.Rows.{with_front}
use Rattle.pocsag_tree.proofs.reader.+node.Given as goal

abbrev pub decreases-node : goal.decreases-node
decreases-node g l = 6 * l.depth

abbrev pub decreases-row : goal.decreases-row
decreases-row g l = 6 * l.depth + 1

abbrev pub decreases-split : goal.decreases-split
decreases-split g l = 6 * l.depth + 2

abbrev pub decreases-cut : goal.decreases-cut
decreases-cut g l = 6 * l.depth + 2

abbrev pub decreases-close : goal.decreases-close
decreases-close g l = 6 * l.depth + 2

abbrev pub decreases-body : goal.decreases-body
decreases-body g l = 6 * l.depth + 3

-- the children so far, and the reading of those that are left, are the reading of the row
abbrev pub invariant-row-loop : goal.invariant-row-loop
invariant-row-loop g l = record {
  counts : IsRowRead l.depth l.made (bounds_of l.children.items) l.reached;
  len : vec_len l.children ≡ l.counter;
  room : vec_capacity l.children ≡ l.count;
  failures : g.S.Source.failures l.source ≡ g.S.Source.failures l.fn.source;
  shrinks : g.S.Source.is_known → length (g.S.Source.held l.source) ≤ length (g.S.Source.held l.fn.source);
  bytes : g.S.Source.is_known → (k : ℕ) → k ≤ length (g.S.Source.held l.source) →
      with_front (map bound_tree_of l.children.items)
      (row_at (node_at l.builder.ranges l.depth) (l.count - l.counter) l.reached (but_last k (g.S.Source.held l.source)))
      ≡ row_at (node_at l.builder.ranges l.depth) l.count l.made (but_last k (g.S.Source.held l.fn.source));
}
