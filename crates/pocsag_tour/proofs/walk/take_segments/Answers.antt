use Rattle.pocsag_tour.proofs.Prelude.{arith, slice_index}
use Rattle.pocsag_tour.proofs.Segments.{enough_left, often_more_le, often_none, taken_more}
use Rattle.pocsag_tour.proofs.Walks.{hit}
use Rattle.pocsag_tour.proofs.walk.take_segments.Goals as goal

pub loop-arc-init : goal.loop-arc-init
loop-arc-init c a = rw (often_none a) (omega arith)

pub overflow_sub-left : goal.overflow_sub-left
overflow_sub-left c =
    let k = c.loop-arc.arc-index in
    let a = slice_index c.args.arcs.now k in
    enough_left c.args.times _ _ _ _ _ (often_more_le a k 0 c.args.arcs.now c.loop-arc-test.true) (hit a)
    (c.requires.enough a) (c.loop-arc.invariant a)

pub loop-arc-preserved : goal.loop-arc-preserved
loop-arc-preserved c =
    taken_more c.args.times c.args.arcs.now c.args.left.now c.loop-arc.left c.loop-arc.arc-index c.loop-arc-test.true
    c.loop-arc.invariant (omega (arith, c.requires.known c.loop-arc.arc-index c.loop-arc-test.true)) (overflow_sub-left c)
