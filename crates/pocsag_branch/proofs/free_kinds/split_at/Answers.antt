use Rattle.pocsag_branch.proofs.Prelude.{arith, count_few}
use Rattle.pocsag_branch.proofs.Settled.{splits_at_count, splits_at_one}
use Rattle.pocsag_branch.proofs.free_kinds.split_at.Goals as goal

pub overflow_cast-result-in-Late : goal.overflow_cast-result-in-Late
overflow_cast-result-in-Late c =
    let may = rw c.in-Late.is at c.requires.way in
    omega (arith, count_few c.args.node.now.classes.now c.in-Late.class may.0)

pub returns-in-Early : goal.returns-in-Early
returns-in-Early c =
    let may = rw c.in-Early.is at c.requires.way in
    let free = rw c.in-Early.is at c.requires.open_way in
    splits_at_one c.args.node.now.classes.now c.args.node.now.task.batches c.args.node.now.limits c.args.node.now.within c.in-Early.class may.0 free may.1

pub returns-in-Late : goal.returns-in-Late
returns-in-Late c =
    let may = rw c.in-Late.is at c.requires.way in
    let free = rw c.in-Late.is at c.requires.open_way in
    splits_at_count c.args.node.now.classes.now c.args.node.now.task.batches c.args.node.now.limits c.args.node.now.within c.in-Late.class may.0 free may.1
