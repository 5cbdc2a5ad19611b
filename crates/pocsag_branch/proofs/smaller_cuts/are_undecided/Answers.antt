use Rattle.pocsag_branch.proofs.Prelude.{◌≤◌, get_or, length, refl, arith, take_all, All-more, IdleIn, Falls}
use Rattle.pocsag_branch.proofs.Settled.{undecided_falls}
use Rattle.pocsag_branch.proofs.smaller_cuts.are_undecided.Goals as goal

pub loop-way-preserved : goal.loop-way-preserved
loop-way-preserved c =
    let i = c.loop-way.way-index in
    All-more (Falls c.args.node.now.classes.now c.args.node.now.task.batches c.args.node.now.limits) c.args.out.now i
    (IdleIn 0) c.loop-way-test.true c.loop-way.invariant
    (undecided_falls c.args.node.now.classes.now c.args.node.now.task.batches c.args.node.now.limits
    (get_or c.args.out.now i (IdleIn 0)) c.args.node.now.task.some c.args.node.now.within
    (c.requires i (IdleIn 0) c.loop-way-test.true) (c.if-not-is_undecided.ensures.0 refl))

pub returns : goal.returns
returns c = λ held.
    let few : length c.args.out.now ≤ c.loop-way.way-index = omega arith in
    rw (take_all c.loop-way.way-index c.args.out.now few) at c.loop-way.invariant
