use Rattle.pocsag_branch.proofs.Prelude.{◌+◌, ◌*◌, take, bounds_of, AreExamined, undecided}
use Rattle.pocsag_branch.proofs.nodes.+nodes.Given as goal

abbrev pub decreases-node_tree : goal.decreases-node_tree
decreases-node_tree l = 4 * undecided l.node.now.classes.now l.node.now.task.batches l.node.now.limits + 3

abbrev pub decreases-tree_of_kind : goal.decreases-tree_of_kind
decreases-tree_of_kind l = 4 * undecided l.node.now.classes.now l.node.now.task.batches l.node.now.limits + 2

abbrev pub decreases-cut_node : goal.decreases-cut_node
decreases-cut_node l = 4 * undecided l.node.now.classes.now l.node.now.task.batches l.node.now.limits + 1

abbrev pub decreases-split_node : goal.decreases-split_node
decreases-split_node l = 4 * undecided l.node.now.classes.now l.node.now.task.batches l.node.now.limits + 1

abbrev pub decreases-close_node : goal.decreases-close_node
decreases-close_node l = 4 * undecided l.node.now.classes.now l.node.now.task.batches l.node.now.limits + 1

abbrev pub decreases-child_nodes : goal.decreases-child_nodes
decreases-child_nodes l = 4 * undecided l.node.now.classes.now l.node.now.task.batches l.node.now.limits

abbrev pub invariant-child_nodes-loop-way : goal.invariant-child_nodes-loop-way
invariant-child_nodes-loop-way l =
    AreExamined l.node.classes.now l.node.task l.node.limits l.examined l.after (take l.way-index l.ways) (bounds_of l.children.items)
