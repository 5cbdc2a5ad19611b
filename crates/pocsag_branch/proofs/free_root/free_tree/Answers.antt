use Rattle.pocsag_branch.proofs.Prelude.{◌≡◌, ◌≤◌, false, Result, Ok, Err, IfOk, arith, subst, IfErr-weaker, Classes, Tree, BoundTree, bound_tree_of, Task, IsStop, IsFreeTree}
use Rattle.pocsag_branch.specs.declared.task.Stop.{Stop}
use Rattle.pocsag_branch.specs.declared.task.Stop.TheVariants.{Met, Limit, OutOfMemory}
use Rattle.pocsag_branch.proofs.free_root.free_tree.Goals as goal

same_tree : (k : Classes) (q r : Task) (t : BoundTree) → r.end ≡ q.end → r.batches ≡ q.batches → r.limit ≤ q.limit → IsFreeTree k r t →
    IsFreeTree k q t
same_tree k q r t same_end same_batches less h =
    record {
      refuted = rw same_end at (rw same_batches at h.refuted);
      few = omega (arith, h.few);
    }

within_limit : (k : Classes) (q r : Task) (found : Result Tree Stop) → r.end ≡ q.end → r.batches ≡ q.batches → r.limit ≤ q.limit →
    IfOk found (λ tree. IsFreeTree k r (bound_tree_of tree)) → IfOk found (λ tree. IsFreeTree k q (bound_tree_of tree))
within_limit k q r (Ok t) same_end same_batches less h = same_tree k q r (bound_tree_of t) same_end same_batches less h
within_limit k q r (Err stop) same_end same_batches less h = h

pub returns-else-task-short-clause-tree : goal.returns-else-task-short-clause-tree
returns-else-task-short-clause-tree c =
    within_limit c.args.classes.now c.args.task c.task_within-second.result c.tree_of_try-in-Err-Limit.result
    c.task_within-second.ensures.end c.task_within-second.ensures.batches
    (omega (arith, c.task_within-second.ensures.limit)) c.tree_of_try-in-Err-Limit.ensures.tree

same_stop : (k : Classes) (q r : Task) (stop : Stop) → q.fixed ≡ false → r.end ≡ q.end → r.batches ≡ q.batches → IsStop k r stop → IsStop k q stop
same_stop k q r (Met answer) free same_end same_batches h = rw same_end at (rw same_batches at h)
same_stop k q r Limit free same_end same_batches h = free
same_stop k q r OutOfMemory free same_end same_batches h = tt

pub returns-in-Ok-clause-tree : goal.returns-in-Ok-clause-tree
returns-in-Ok-clause-tree c =
    same_tree c.args.classes.now c.args.task c.task_within-first.result (bound_tree_of c.in-Ok.tree) c.task_within-first.ensures.end
    c.task_within-first.ensures.batches (omega (arith, c.task_within-first.ensures.limit, c.min-short.ensures)) c.in-Ok.ensures.tree

pub returns-in-Err-Met-clause-stop : goal.returns-in-Err-Met-clause-stop
returns-in-Err-Met-clause-stop c =
    same_stop c.args.classes.now c.args.task c.task_within-first.result (Met c.in-Err-Met.answer) c.requires c.task_within-first.ensures.end
    c.task_within-first.ensures.batches
    (subst (IsStop c.args.classes.now c.task_within-first.result) c.in-Err-Met.field-0-is c.in-Err-Met.ensures.stop)

pub returns-else-task-short-clause-stop : goal.returns-else-task-short-clause-stop
returns-else-task-short-clause-stop c =
    IfErr-weaker c.tree_of_try-in-Err-Limit.result _ _
    (λ stop h. same_stop c.args.classes.now c.args.task c.task_within-second.result stop c.requires c.task_within-second.ensures.end
    c.task_within-second.ensures.batches h)
    c.tree_of_try-in-Err-Limit.ensures.stop
