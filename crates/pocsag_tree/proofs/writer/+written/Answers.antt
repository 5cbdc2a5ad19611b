use Rattle.pocsag_tree.proofs.Prelude.{refl, arith, drop, second_ranges, cut, close, bounds_of, IsInRange, row}
use Rattle.pocsag_tree.proofs.Counts.{count_of_bounds, bound_tree_of-cut, bound_tree_of-close, split_text, cut_text, close_text, row-drop}
use Rattle.pocsag_tree.proofs.Taken.{took_first, took_then, took_left, delivers_then, stopped}
use Rattle.pocsag_tree.proofs.writer.+written.Goals as goal

-- ---- a `Split`

pub write_node-returns-in_err-write_all-in-Split-clause-delivers : goal.write_node-returns-in_err-write_all-in-Split-clause-delivers
write_node-returns-in_err-write_all-in-Split-clause-delivers g t c = λ is_known.
    let text = split_text c.args.tree.now c.in-Split.class c.in-Split.m c.in-Split.below c.in-Split.from c.in-Split.is in
    let head = rw c.to_be_bytes-m.ensures at (c.in_err-write_all-in-Split.ensures.delivers is_known).1 in
    stopped _ c.from_residual.result _ _ _ c.from_residual.ensures.1 (took_first _ _ _ _ _ text head)

pub write_node-returns-in_err-write_node-in-Split-clause-delivers : goal.write_node-returns-in_err-write_node-in-Split-clause-delivers
write_node-returns-in_err-write_node-in-Split-clause-delivers g t c = λ is_known.
    let text = split_text c.args.tree.now c.in-Split.class c.in-Split.m c.in-Split.below c.in-Split.from c.in-Split.is in
    let head = rw c.to_be_bytes-m.ensures at (c.in_ok-write_all-in-Split.ensures.delivers is_known).0 in
    let below = rw c.deref.ensures at (c.in_err-write_node-in-Split.ensures.delivers is_known).1 in
    stopped _ c.from_residual-in_err-write_node-in-Split.result _ _ _ c.from_residual-in_err-write_node-in-Split.ensures.1
    (took_then _ _ _ _ _ _ text head (took_first _ _ _ _ _ refl below))

pub write_node-returns-in_ok-write_node-in-Split-clause-delivers : goal.write_node-returns-in_ok-write_node-in-Split-clause-delivers
write_node-returns-in_ok-write_node-in-Split-clause-delivers g t c = λ is_known.
    let text = split_text c.args.tree.now c.in-Split.class c.in-Split.m c.in-Split.below c.in-Split.from c.in-Split.is in
    let head = rw c.to_be_bytes-m.ensures at (c.in_ok-write_all-in-Split.ensures.delivers is_known).0 in
    let below = rw c.deref.ensures at (c.in_ok-write_node-in-Split.ensures.delivers is_known).0 in
    let from = rw c.deref-in-Split.ensures at (c.write_node-in-Split.ensures.delivers is_known) in
    delivers_then c.write_node-in-Split.result _ _ _ _ _ _ text head (delivers_then c.write_node-in-Split.result _ _ _ _ _ _ refl below from)

-- ---- a `Cut`: what is written names the number of its children

pub write_node-overflow_cast-len : goal.write_node-overflow_cast-len
write_node-overflow_cast-len g t c =
    let is = bound_tree_of-cut c.args.tree.now c.in-Cut.set c.in-Cut.needed c.in-Cut.children c.in-Cut.is in
    let in_range : IsInRange second_ranges (cut c.in-Cut.set c.in-Cut.needed (bounds_of c.in-Cut.children.items)) = rw is at c.requires in
    omega (arith, in_range.3, count_of_bounds c.in-Cut.children.items, c.in-Cut.children.ok.0, c.len.ensures)

pub write_node-returns-in_err-write_all-in-Cut-clause-delivers : goal.write_node-returns-in_err-write_all-in-Cut-clause-delivers
write_node-returns-in_err-write_all-in-Cut-clause-delivers g t c = λ is_known.
    let text = cut_text c.args.tree.now c.in-Cut.set c.in-Cut.needed c.len.result c.in-Cut.children c.in-Cut.is
    (omega (arith, c.in-Cut.children.ok.0, c.len.ensures)) in
    let head = rw (c.to_be_bytes-set-in-Cut.ensures, c.to_be_bytes-count.ensures) at (c.in_err-write_all-in-Cut.ensures.delivers is_known).1 in
    stopped _ c.from_residual-in_err-write_all-in-Cut.result _ _ _ c.from_residual-in_err-write_all-in-Cut.ensures.1
    (took_first _ _ _ _ _ text head)

pub write_node-returns-in_ok-write_all-in-Cut-clause-delivers : goal.write_node-returns-in_ok-write_all-in-Cut-clause-delivers
write_node-returns-in_ok-write_all-in-Cut-clause-delivers g t c = λ is_known.
    let text = cut_text c.args.tree.now c.in-Cut.set c.in-Cut.needed c.len.result c.in-Cut.children c.in-Cut.is
    (omega (arith, c.in-Cut.children.ok.0, c.len.ensures)) in
    let head = rw (c.to_be_bytes-set-in-Cut.ensures, c.to_be_bytes-count.ensures) at (c.in_ok-write_all-in-Cut.ensures.delivers is_known).0 in
    let children = rw c.deref-in-Cut.ensures.value at (c.write_row.ensures.delivers is_known) in
    delivers_then c.write_row.result _ _ _ _ _ _ text head children

-- ---- a `Close`, alike

pub write_node-overflow_cast-len-in-Close : goal.write_node-overflow_cast-len-in-Close
write_node-overflow_cast-len-in-Close g t c =
    let is = bound_tree_of-close c.args.tree.now c.in-Close.children c.in-Close.is in
    let in_range : IsInRange second_ranges (close (bounds_of c.in-Close.children.items)) = rw is at c.requires in
    omega (arith, in_range.2, count_of_bounds c.in-Close.children.items, c.in-Close.children.ok.0, c.len-in-Close.ensures)

pub write_node-returns-in_err-write_all-in-Close-clause-delivers : goal.write_node-returns-in_err-write_all-in-Close-clause-delivers
write_node-returns-in_err-write_all-in-Close-clause-delivers g t c = λ is_known.
    let text = close_text c.args.tree.now c.len-in-Close.result c.in-Close.children c.in-Close.is
    (omega (arith, c.in-Close.children.ok.0, c.len-in-Close.ensures)) in
    stopped _ c.from_residual-in_err-write_all-in-Close.result _ _ _ c.from_residual-in_err-write_all-in-Close.ensures.1
    (took_first _ _ _ _ _ text (c.in_err-write_all-in-Close.ensures.delivers is_known).1)

pub write_node-returns-in_ok-write_all-in-Close-clause-delivers : goal.write_node-returns-in_ok-write_all-in-Close-clause-delivers
write_node-returns-in_ok-write_all-in-Close-clause-delivers g t c = λ is_known.
    let text = close_text c.args.tree.now c.len-in-Close.result c.in-Close.children c.in-Close.is
    (omega (arith, c.in-Close.children.ok.0, c.len-in-Close.ensures)) in
    let children = rw c.deref-in-Close.ensures.value at (c.write_row-in-Close.ensures.delivers is_known) in
    delivers_then c.write_row-in-Close.result _ _ _ _ _ _ text (c.in_ok-write_all-in-Close.ensures.delivers is_known).0 children

-- ---- a row

pub write_row-returns-in_err-write_node-clause-delivers : goal.write_row-returns-in_err-write_node-clause-delivers
write_row-returns-in_err-write_node-clause-delivers g t c = λ is_known.
    let rest = row (bounds_of (drop c.loop-tree.tree-index c.args.trees.now)) in
    let text = row-drop c.args.trees.now c.loop-tree.tree-index c.tree-item.result c.loop-tree-test.true c.tree-item.is in
    let part = took_first _ _ _ _ _ text (c.in_err-write_node.ensures.delivers is_known).1 in
    stopped _ c.from_residual.result _ _ _ c.from_residual.ensures.1
    (took_left _ _ _ _ rest (c.loop-tree.invariant.grown is_known) (c.loop-tree.invariant.taken is_known) part)
