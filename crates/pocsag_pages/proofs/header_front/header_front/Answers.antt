use Rattle.pocsag_pages.proofs.Prelude.{arith}
use Rattle.pocsag_pages.proofs.HeaderFronts.{front_found, line_end_more}
use Rattle.pocsag_pages.proofs.header_front.header_front.Goals as goal

pub returns-then-not-ends_line : goal.returns-then-not-ends_line
returns-then-not-ends_line c =
    rw c.min.ensures
    (front_found c.args.file.now c.loop-end.end c.loop-end-test.true c.if-not-ends_line.true
    (omega (arith, c.min-end.ensures, c.loop-end.auto.end)) c.loop-end.invariant)

pub loop-end-preserved : goal.loop-end-preserved
loop-end-preserved c =
    line_end_more c.args.file.now c.loop-end.end _ c.loop-end-test.true c.if-not-ends_line.false c.loop-end.invariant
