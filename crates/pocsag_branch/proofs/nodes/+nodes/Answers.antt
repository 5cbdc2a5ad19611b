use Rattle.pocsag_branch.proofs.Prelude.{ℕ, ◌+◌, ◌≤◌, ◌∙◌, arith, IdleIn, bound_tree_of}
use Rattle.pocsag_branch.proofs.NodeChildren.{close_made, cut_made, kept, kept_below, kept_in_row, row_goes_on, split_made}
use Rattle.pocsag_branch.proofs.nodes.+nodes.Goals as goal

one_later : (n : ℕ) → n ≤ n + 1
one_later n = omega arith

before : (a n b : ℕ) → a + 1 + n ≤ b → a ≤ b
before a n b h = omega arith

pub child_nodes-loop-way-preserved : goal.child_nodes-loop-way-preserved
child_nodes-loop-way-preserved t c =
    row_goes_on c.args.node.now.classes.now c.args.node.now.task c.args.node.now.limits c.args.examined
    c.loop-way.after c.in_ok-child.next c.loop-way.way-index c.args.ways.now c.loop-way.children.items
    (IdleIn 0) c.in_ok-child.child c.push.new.self.items
    c.in_ok-narrowed.narrowed.value.limits c.loop-way-test.true c.in_ok-narrowed.ensures.limits c.in_ok-push.ensures.items
    c.loop-way.invariant
    (rw (c.deref.ensures, c.in_ok-narrowed.ensures.classes, c.in_ok-narrowed.ensures.task) at c.in_ok-child.ensures.node)
    (rw (c.in_ok-narrowed.ensures.classes, c.in_ok-narrowed.ensures.task) at c.in_ok-narrowed.ensures.falls)

pub tree_of_kind-overflow_add-result : goal.tree_of_kind-overflow_add-result
tree_of_kind-overflow_add-result t c = omega (arith, c.requires.examined, c.args.node.now.task.limited.few)

pub cut_node-overflow_add-examined : goal.cut_node-overflow_add-examined
cut_node-overflow_add-examined t c = omega (arith, c.requires.examined, c.args.node.now.task.limited.few)

pub split_node-overflow_add-examined : goal.split_node-overflow_add-examined
split_node-overflow_add-examined t c = omega (arith, c.requires.examined, c.args.node.now.task.limited.few)

pub close_node-overflow_add-examined : goal.close_node-overflow_add-examined
close_node-overflow_add-examined t c = omega (arith, c.requires.examined, c.args.node.now.task.limited.few)

pub child_nodes-returns-then-stands_for-clause-node : goal.child_nodes-returns-then-stands_for-clause-node
child_nodes-returns-then-stands_for-clause-node t c =
    kept_in_row c.args.node.now.classes.now c.args.node.now.task c.args.node.now.limits c.in_ok-narrowed.narrowed.value.limits c.args.examined c.loop-way.after c.in_ok-child.next _ _ _
    (bound_tree_of c.in_ok-child.child) c.loop-way.invariant
    (rw (c.deref.ensures, c.in_ok-narrowed.ensures.classes, c.in_ok-narrowed.ensures.task) at c.in_ok-child.ensures.node)
    (rw (c.in_ok-narrowed.ensures.classes, c.in_ok-narrowed.ensures.task) at c.in_ok-narrowed.ensures.falls)
    (c.stands_for.ensures.0 c.if-stands_for.true)

pub cut_node-returns-in-Whole-clause-node : goal.cut_node-returns-in-Whole-clause-node
cut_node-returns-in-Whole-clause-node t c =
    cut_made c.args.node.now.classes.now c.args.node.now.task c.args.node.now.limits c.args.examined c.in_ok-children.after
    c.args.set.members c.args.needed.number c.deref.result.now c.in-Whole.children c.args.needed.known c.args.set.zero c.requires.certain
    (omega arith) c.requires.shape (c.deref.ensures.0 ∙ c.ways-out.ensures.items) (rw c.in-Whole.is at c.in_ok-children.ensures.node)

pub cut_node-returns-in-Kept-clause-node : goal.cut_node-returns-in-Kept-clause-node
cut_node-returns-in-Kept-clause-node t c =
    kept_below c.args.node.now.classes.now c.args.node.now.task c.args.node.now.limits c.args.examined c.in_ok-children.after (bound_tree_of c.in-Kept.tree)
    (rw c.in-Kept.is at c.in_ok-children.ensures.node)

pub close_node-returns-in-Whole-clause-node : goal.close_node-returns-in-Whole-clause-node
close_node-returns-in-Whole-clause-node t c =
    close_made c.args.node.now.classes.now c.args.node.now.task c.args.node.now.limits c.args.examined c.in_ok-children.after
    c.deref.result.now c.in-Whole.children c.requires.asks c.requires.shape
    (c.deref.ensures.0 ∙ c.ending_ways-out.ensures.items) (rw c.in-Whole.is at c.in_ok-children.ensures.node)

pub close_node-returns-in-Kept-clause-node : goal.close_node-returns-in-Kept-clause-node
close_node-returns-in-Kept-clause-node t c =
    kept_below c.args.node.now.classes.now c.args.node.now.task c.args.node.now.limits c.args.examined c.in_ok-children.after (bound_tree_of c.in-Kept.tree)
    (rw c.in-Kept.is at c.in_ok-children.ensures.node)

pub split_node-returns-then-stands_for-clause-node : goal.split_node-returns-then-stands_for-clause-node
split_node-returns-then-stands_for-clause-node t c =
    kept c.args.node.now.classes.now c.args.node.now.task c.args.node.now.limits c.in_ok-under.under.value.limits c.args.examined
    (c.args.examined + 1) c.in_ok-below.between _ (bound_tree_of c.in_ok-below.below) (one_later c.args.examined)
    (rw (c.deref.ensures, c.in_ok-under.ensures.classes, c.in_ok-under.ensures.task) at c.in_ok-below.ensures.node)
    (rw (c.in_ok-under.ensures.classes, c.in_ok-under.ensures.task) at c.in_ok-under.ensures.falls) (c.stands_for.ensures.0 c.if-stands_for.true)

pub split_node-returns-then-stands_for-2-clause-node : goal.split_node-returns-then-stands_for-2-clause-node
split_node-returns-then-stands_for-2-clause-node t c =
    kept c.args.node.now.classes.now c.args.node.now.task c.args.node.now.limits c.in_ok-over.over.value.limits c.args.examined
    c.in_ok-below.between c.in_ok-from.after _ (bound_tree_of c.in_ok-from.from) (before _ _ _ c.in_ok-below.ensures.node.few)
    (rw (c.deref-2.ensures, c.in_ok-over.ensures.classes, c.in_ok-over.ensures.task) at c.in_ok-from.ensures.node)
    (rw (c.in_ok-over.ensures.classes, c.in_ok-over.ensures.task) at c.in_ok-over.ensures.falls) (c.stands_for-2.ensures.0 c.if-stands_for-2.true)

pub split_node-returns-clause-node : goal.split_node-returns-clause-node
split_node-returns-clause-node t c =
    split_made c.args.node.now.classes.now c.args.node.now.task c.args.node.now.limits c.args.examined c.in_ok-below.between
    c.in_ok-from.after c.args.class.number c.args.m c.in_ok-under.under.value.limits c.in_ok-over.over.value.limits
    c.in_ok-below.below c.in_ok-from.from
    c.in_ok-tree.tree c.in_ok-tree.ensures
    c.requires.point c.requires.shape c.in_ok-under.ensures.limits c.in_ok-over.ensures.limits
    (rw (c.deref.ensures, c.in_ok-under.ensures.classes, c.in_ok-under.ensures.task) at c.in_ok-below.ensures.node)
    (rw (c.deref-2.ensures, c.in_ok-over.ensures.classes, c.in_ok-over.ensures.task) at c.in_ok-from.ensures.node)
