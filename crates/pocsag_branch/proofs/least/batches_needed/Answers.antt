use Rattle.pocsag_branch.proofs.Prelude.{◌≡◌, ℕ, ◌+◌, ◌/◌, ◌%◌, min, ap, ◌∙◌, IsLeastLoad, limits_of_all, sum_over}
use Rattle.pocsag_branch.proofs.LeastBounds.{has_members, share_more, share_most, share_refuses}
use Rattle.pocsag_branch.proofs.least.batches_needed.Goals as goal
use Rattle.pocsag_branch.proofs.least.batches_needed.Goals.{After-from, After-div_ceil}

least : (c : After-from) → IsLeastLoad c.args.classes.now
    (limits_of_all c.args.classes.now c.args.batches) c.args.set c.least_load-load.result
least c = rw c.all_limits.ensures.value at c.least_load-load.ensures.least

rounded : (c : After-div_ceil) → c.div_ceil.result ≡ c.least_load-load.result / sum_over c.args.set (λ slot. 1) + min 1
    (c.least_load-load.result % sum_over c.args.set (λ slot. 1))
rounded c =
    c.div_ceil.ensures
    ∙ ap (λ (n : ℕ). c.least_load-load.result / n + min 1 (c.least_load-load.result % n)) (c.from.ensures ∙ c.size.ensures.members)

pub div_ceil-requires : goal.div_ceil-requires
div_ceil-requires c =
    rw (c.from.ensures ∙ c.size.ensures.members)
    (has_members c.args.classes.now c.args.batches c.args.set c.least_load-load.result 0 c.requires.over
    (least (goal.at.div_ceil-requires c).After-from))

pub returns-clause-refuses : goal.returns-clause-refuses
returns-clause-refuses c =
    share_refuses c.args.classes.now c.args.batches c.args.set c.least_load-load.result c.div_ceil.result c.requires.over
    (least (goal.at.returns-clause-refuses c).After-from) c.requires.set (rounded c)

pub returns-clause-more : goal.returns-clause-more
returns-clause-more c =
    share_more c.args.classes.now c.args.batches c.args.set c.least_load-load.result c.div_ceil.result c.requires.over
    (least (goal.at.returns-clause-more c).After-from) (rounded c)

pub returns-clause-bound : goal.returns-clause-bound
returns-clause-bound c =
    share_most c.args.classes.now c.args.batches c.args.set c.least_load-load.result c.div_ceil.result c.requires.over
    (least (goal.at.returns-clause-bound c).After-from) (rounded c)
