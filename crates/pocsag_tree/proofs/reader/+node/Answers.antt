use Rattle.pocsag_tree.proofs.Prelude.{◌≡◌, ◌∷◌, [], ◌++◌, ◌≤◌, ℕ, List, length, map, refl, arith, lt-ltb, le-ltb, err_from_is_err_and, all_nodes_in, deepest, bound_tree_of, bounds_of, but_last, close_at, cut_at, node_at, split_at, tagged_at, rules, map_push}
use Rattle.pocsag_tree.specs.declared.refusals.CertificateFault.TheVariants as fault
use Rattle.pocsag_tree.proofs.Counts.{bound_tree_of-close, bound_tree_of-cut, split_seen}
use Rattle.pocsag_tree.proofs.Early.{node_is_early, reads_tagged, node_ends, told, row_is_early, row_ends_early, split_fails}
use Rattle.pocsag_tree.proofs.Fronts.{but_last_all}
use Rattle.pocsag_tree.proofs.Rows.{reads_on, reads_no_further, reads_tree, row_starts, row_goes_on, row_ends, row_is_done, nodes-push, deepest-push}
use Rattle.pocsag_tree.proofs.reader.+node.Goals as goal

pub node-returns-in_err-tag-clause-reads : goal.node-returns-in_err-tag-clause-reads
unfolding tagged_at
node-returns-in_err-tag-clause-reads g t c = λ is_known.
    let p = err_from_is_err_and c.from_residual-in_err-tag.result c.from_residual-in_err-tag.ensures.1 in
    rw (p.1, p.2) (reads_tagged _ _ _ _ _ _ c.in_ok-wanted.ensures.fine (reads_no_further _ _ _ _ _ _ _ (c.in_err-tag.ensures.reads is_known)))

pub node-returns-then-tag-builder-clause-reads : goal.node-returns-then-tag-builder-clause-reads
unfolding tagged_at
node-returns-then-tag-builder-clause-reads g t c = λ is_known.
    let over = lt-ltb c.args.builder.ranges.tag c.in_ok-tag.tag c.if-tag-builder.true in
    reads_tagged _ _ _ _ _ _ c.in_ok-wanted.ensures.fine (reads_on _ _ _ _ _ _ _ _ _ (c.in_ok-tag.ensures.reads is_known)
    (record { shrinks = omega arith; bytes = λ k le. rw over refl }))

pub node-returns-clause-reads : goal.node-returns-clause-reads
unfolding tagged_at
node-returns-clause-reads g t c = λ is_known.
    let within = le-ltb c.args.builder.ranges.tag c.in_ok-tag.tag c.if-tag-builder.false in
    reads_tagged _ _ _ _ _ _ c.in_ok-wanted.ensures.fine (reads_on _ _ _ _ _ _ _ _ _ (c.in_ok-tag.ensures.reads is_known)
    (record { shrinks = (c.body.ensures.reads is_known).shrinks; bytes = λ k le. rw within ((c.body.ensures.reads is_known).bytes k le) }))

-- ---- a row

pub row-returns-in_err-child-clause-reads : goal.row-returns-in_err-child-clause-reads
row-returns-in_err-child-clause-reads g t c = λ is_known.
    let p = err_from_is_err_and c.from_residual-in_err-child.result c.from_residual-in_err-child.ensures.1 in
    let child = c.in_err-child.ensures.reads is_known in
    record {
      shrinks = omega (arith, child.shrinks, c.loop.invariant.shrinks is_known);
      bytes = λ k le.
          let longer : k ≤ length (g.S.Source.held c.loop.source) = omega (arith, le, child.shrinks) in
          rw (p.1, p.2) (row_ends c.in_err-child.field-0.0 _ _ (map bound_tree_of c.loop.children.items) c.args.count c.loop.counter
          c.loop.reached _ _ c.loop-test.true (child.bytes k le) (c.loop.invariant.bytes is_known k longer));
    }

pub row-loop-init : goal.row-loop-init
row-loop-init g t c =
    let items = c.in_ok-children.ensures.items in
    let counted : all_nodes_in (bounds_of c.in_ok-children.children.items) ≡ 0 = rw items in
    let deep : deepest (bounds_of c.in_ok-children.children.items) ≡ 0 = rw items in
    record {
      counts = record { deep = omega (arith, deep); counted = omega (arith, counted); few = search rules };
      len = search rules;
      room = search rules;
      failures = refl;
      shrinks = λ is_known. omega arith;
      bytes = λ is_known k le. row_starts
          (node_at c.args.builder.ranges c.args.depth) c.in_ok-children.children.items c.args.count c.args.made _ items;
    }

pub row-loop-preserved : goal.row-loop-preserved
row-loop-preserved g t c =
    let child = c.in_ok-child.child in
    let so_far = c.loop.invariant.counts in
    let more = c.in_ok-child.ensures.counts in
    let items = c.push_reserved.ensures.items in
    let seen : map bound_tree_of c.push_reserved.new.self.items ≡ map bound_tree_of c.loop.children.items ++ bound_tree_of child ∷ [] =
    rw items (map_push _ c.loop.children.items child) in
    let counted : all_nodes_in (bounds_of c.push_reserved.new.self.items) ≡ all_nodes_in (bounds_of (c.loop.children.items ++ child ∷ [])) =
    rw items in
    let deep : deepest (bounds_of c.push_reserved.new.self.items) ≡ deepest (bounds_of (c.loop.children.items ++ child ∷ [])) = rw items in
    record {
      counts = record {
        deep = omega (arith, deep, deepest-push c.loop.children.items child, so_far.deep, more.deep);
        counted = omega (arith, counted, nodes-push c.loop.children.items child, so_far.counted, more.counted);
        few = more.few;
      };
      len = omega (arith, c.push_reserved.ensures.len, c.loop.invariant.len);
      room = omega (arith, c.push_reserved.ensures.capacity, c.loop.invariant.room);
      failures = search rules;
      shrinks = λ is_known. omega (arith, (c.in_ok-child.ensures.reads is_known).shrinks, c.loop.invariant.shrinks is_known);
      bytes = λ is_known k le.
          let read = c.in_ok-child.ensures.reads is_known in
          let longer : k ≤ length (g.S.Source.held c.loop.source) = omega (arith, le, read.shrinks) in
          rw seen (row_goes_on _ (map bound_tree_of c.loop.children.items) c.args.count c.loop.counter c.loop.reached _ (bound_tree_of child)
          c.in_ok-child.after _ _ c.loop-test.true (read.bytes k le) (c.loop.invariant.bytes is_known k longer));
    }

pub row-returns-clause-reads : goal.row-returns-clause-reads
row-returns-clause-reads g t c = λ is_known. record {
  shrinks = c.loop.invariant.shrinks is_known;
  bytes = λ k le. row_is_done _ (map bound_tree_of c.loop.children.items) c.args.count c.loop.counter c.loop.reached _ _ c.loop-test.false
      (c.loop.invariant.bytes is_known k le);
}

pub row-returns-in_err-wanted-clause-reads : goal.row-returns-in_err-wanted-clause-reads
row-returns-in_err-wanted-clause-reads g t c = λ is_known.
    let p = err_from_is_err_and c.from_residual.result c.from_residual.ensures.1 in
    record {
      shrinks = omega arith;
      bytes = λ k le. rw (p.1, p.2) (row_is_early c.args.builder.ranges c.args.depth c.args.count c.args.made _ c.in_err-wanted.field-0.0 _
          c.requires.some c.in_err-wanted.ensures.early);
    }

pub row-returns-in_err-children-clause-reads : goal.row-returns-in_err-children-clause-reads
row-returns-in_err-children-clause-reads g t c = λ is_known.
    let p = err_from_is_err_and c.from_residual-in_err-children.result c.from_residual-in_err-children.ensures.1 in
    let held : List ℕ = g.S.Source.held c.args.source.now in
    let fine = c.in_ok-wanted.ensures.fine in
    record {
      shrinks = omega arith;
      bytes = λ k le. rw (p.1, p.2) (λ here. row_ends_early c.args.builder.ranges c.args.depth c.args.count c.args.made (but_last k held)
          c.requires.some fine.0 fine.1 (but_last_all k held here));
    }

-- ---- a `Split`, where a child is wanted that may not stand there, or for which there is no room

pub split-returns-in_err-wanted-clause-reads : goal.split-returns-in_err-wanted-clause-reads
split-returns-in_err-wanted-clause-reads g t c = λ is_known.
    let p = err_from_is_err_and c.from_residual-in_err-wanted.result c.from_residual-in_err-wanted.ensures.1 in
    let e = c.in_err-wanted.field-0.0 in
    let early = c.in_err-wanted.ensures.early in
    let class = c.in_ok-class.ensures.reads is_known in
    let m = c.in_ok-m.ensures.reads is_known in
    record {
      shrinks = omega (arith, class.shrinks, m.shrinks);
      bytes = λ k le.
          let longer : k ≤ length (g.S.Source.held c.small.new.source) = omega (arith, le, m.shrinks) in
          rw (p.1, p.2) (told c.args.depth c.args.made e _ _ early
          (split_fails c.args.builder.ranges (node_at c.args.builder.ranges c.args.depth) c.in_ok-class.class c.in_ok-m.m c.args.made _ _ _ e
          (class.bytes k longer) (m.bytes k le) (node_is_early c.args.builder.ranges c.args.depth c.args.made _ e early)));
    }

pub split-returns-in_err-below-clause-reads : goal.split-returns-in_err-below-clause-reads
split-returns-in_err-below-clause-reads g t c = λ is_known.
    let p = err_from_is_err_and c.from_residual-in_err-below.result c.from_residual-in_err-below.ensures.1 in
    let held : List ℕ = g.S.Source.held c.large.new.source in
    let fine = c.in_ok-wanted.ensures.fine in
    let class = c.in_ok-class.ensures.reads is_known in
    let m = c.in_ok-m.ensures.reads is_known in
    record {
      shrinks = omega (arith, class.shrinks, m.shrinks);
      bytes = λ k le.
          let longer : k ≤ length (g.S.Source.held c.small.new.source) = omega (arith, le, m.shrinks) in
          rw (p.1, p.2, c.in_err-below.ensures) (λ here.
          split_fails c.args.builder.ranges (node_at c.args.builder.ranges c.args.depth) c.in_ok-class.class c.in_ok-m.m c.args.made _ _ _ fault.Truncated
          (class.bytes k longer) (m.bytes k le)
          (rw (but_last_all k held here) (node_ends c.args.builder.ranges c.args.depth c.args.made fine.0 fine.1)));
    }

-- ---- the other exits, by their steps

pub split-returns-in_err-tree-clause-reads : goal.split-returns-in_err-tree-clause-reads
unfolding split_at
split-returns-in_err-tree-clause-reads g t c = λ is_known.
    let p = err_from_is_err_and c.from_residual-in_err-tree.result c.from_residual-in_err-tree.ensures.1 in
    rw (p.1, p.2)
    (reads_on _ _ _ _ _ _ _ _ _ (c.in_ok-class.ensures.reads is_known)
    (reads_on _ _ _ _ _ _ _ _ _ (c.in_ok-m.ensures.reads is_known)
    (reads_no_further _ _ _ _ _ _ _ (c.in_err-tree.ensures.reads is_known))))

pub split-returns-in_err-tree-2-clause-reads : goal.split-returns-in_err-tree-2-clause-reads
unfolding split_at
split-returns-in_err-tree-2-clause-reads g t c = λ is_known.
    let p = err_from_is_err_and c.from_residual-in_err-tree-2.result c.from_residual-in_err-tree-2.ensures.1 in
    rw (p.1, p.2)
    (reads_on _ _ _ _ _ _ _ _ _ (c.in_ok-class.ensures.reads is_known)
    (reads_on _ _ _ _ _ _ _ _ _ (c.in_ok-m.ensures.reads is_known)
    (reads_on _ _ _ _ _ _ _ _ _ (c.in_ok-tree.ensures.reads is_known)
    (reads_no_further _ _ _ _ _ _ _ (c.in_err-tree-2.ensures.reads is_known)))))

pub split-returns-clause-reads : goal.split-returns-clause-reads
unfolding split_at
split-returns-clause-reads g t c = λ is_known.
    reads_on _ _ _ _ _ _ _ _ _ (c.in_ok-class.ensures.reads is_known)
    (reads_on _ _ _ _ _ _ _ _ _ (c.in_ok-m.ensures.reads is_known)
    (reads_on _ _ _ _ _ _ _ _ _ (c.in_ok-tree.ensures.reads is_known)
    (reads_on _ _ _ _ _ _ _ _ _ (c.in_ok-tree-2.ensures.reads is_known)
    (reads_tree _ _ _ _ (split_seen _ _ _ _ c.in_ok-tree.tree c.in_ok-tree-2.tree (search rules) (search rules))))))

pub cut-returns-in_err-children-clause-reads : goal.cut-returns-in_err-children-clause-reads
unfolding cut_at
cut-returns-in_err-children-clause-reads g t c = λ is_known.
    let p = err_from_is_err_and c.from_residual-in_err-children.result c.from_residual-in_err-children.ensures.1 in
    rw (p.1, p.2)
    (reads_on _ _ _ _ _ _ _ _ _ (c.in_ok-set.ensures.reads is_known)
    (reads_on _ _ _ _ _ _ _ _ _ (c.in_ok-needed.ensures.reads is_known)
    (reads_on _ _ _ _ _ _ _ _ _ (c.in_ok-count.ensures.reads is_known)
    (reads_no_further _ _ _ _ _ _ _ (c.in_err-children.ensures.reads is_known)))))

pub cut-returns-clause-reads : goal.cut-returns-clause-reads
unfolding cut_at
cut-returns-clause-reads g t c = λ is_known.
    reads_on _ _ _ _ _ _ _ _ _ (c.in_ok-set.ensures.reads is_known)
    (reads_on _ _ _ _ _ _ _ _ _ (c.in_ok-needed.ensures.reads is_known)
    (reads_on _ _ _ _ _ _ _ _ _ (c.in_ok-count.ensures.reads is_known)
    (reads_on _ _ _ _ _ _ _ _ _ (c.in_ok-children.ensures.reads is_known) (reads_tree _ _ _ _ (bound_tree_of-cut _ _ _ _ refl)))))

pub close-returns-clause-reads : goal.close-returns-clause-reads
unfolding close_at
close-returns-clause-reads g t c = λ is_known.
    let children = rw c.from.ensures at (c.in_ok-children.ensures.reads is_known) in
    reads_on _ _ _ _ _ _ _ _ _ (c.in_ok-count.ensures.reads is_known)
    (reads_on _ _ _ _ _ _ _ _ _ children (reads_tree _ _ _ _ (bound_tree_of-close _ _ refl)))
