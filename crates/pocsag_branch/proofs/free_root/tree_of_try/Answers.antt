use Rattle.pocsag_branch.proofs.Prelude.{◌≡◌, ◌∙◌, sym, inl, inr, End, AsksForLast, bound_tree_of, err_from_is_err_and}
use Rattle.std.specs.Prelude.{◌⊎◌}
use Rattle.pocsag_words.specs.declared.ending.End.TheVariants as ends
use Rattle.pocsag_branch.proofs.TreeEnds.{all_node_limits, free_made, root_closing}
use Rattle.pocsag_branch.proofs.free_root.tree_of_try.Goals as goal
use Rattle.pocsag_branch.proofs.free_root.tree_of_try.Goals.{in-Open, in-Closed}

closed_or_idle : (end : End) → (end ≡ ends.Closed) ⊎ (end ≡ ends.Idle) → AsksForLast end
closed_or_idle ends.Open (inl e) = cc e
closed_or_idle ends.Open (inr e) = cc e
closed_or_idle ends.Closed e = tt
closed_or_idle ends.Idle e = tt

pub tree_of_kind-requires-clause-kind : goal.tree_of_kind-requires-clause-kind
tree_of_kind-requires-clause-kind c = (
  closed_or_idle c.args.task.end c.in-Closed.is,
  rw c.all_limits.ensures.value (root_closing c.args.classes.now c.args.task.end c.args.task.batches c.args.task.some),
)

pub invariant_of-root : goal.invariant_of-root
invariant_of-root c =
    record { within = rw c.all_limits.ensures.value (all_node_limits c.args.classes.now c.args.task.batches) }

pub returns-in_err-tree-clause-tree : goal.returns-in_err-tree-clause-tree
returns-in_err-tree-clause-tree c =
    let p = err_from_is_err_and c.from_residual.result c.from_residual.ensures.1 in
    rw p.1 tt

pub returns-clause-tree : goal.returns-clause-tree
returns-clause-tree c =
    elim c.match-task.branch [
      | in-Open w ↦
          free_made c.args.classes.now c.args.task _ (bound_tree_of c.in_ok-tree.tree) c.requires
          (rw (c.all_limits.ensures.value, sym w.branch'-is ∙ c.in_ok-tree.was) at w.node_tree.ensures.node)
      | in-Closed w ↦
          free_made c.args.classes.now c.args.task _ (bound_tree_of c.in_ok-tree.tree) c.requires
          (rw (c.all_limits.ensures.value, sym w.branch'-is ∙ c.in_ok-tree.was) at w.tree_of_kind.ensures.node)
    ]
