use Rattle.pocsag_branch.proofs.TreeEnds.{all_node_limits}
use Rattle.pocsag_branch.proofs.fixed_root.fixed_tree.Goals as goal

pub invariant_of-root : goal.invariant_of-root
invariant_of-root c =
    record { within = rw c.all_limits.ensures.value (all_node_limits c.args.classes.now c.args.task.batches) }

pub kind_for-requires : goal.kind_for-requires
kind_for-requires c = rw c.all_limits.ensures.value (rw c.in-Some.is at c.in_ok-choice.ensures.choice)
