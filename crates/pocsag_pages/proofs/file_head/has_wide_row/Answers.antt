use Rattle.pocsag_pages.proofs.Prelude.{arith}
use Rattle.pocsag_pages.proofs.Fronts.{wide_first, wide_later}
use Rattle.pocsag_pages.proofs.file_head.has_wide_row.Goals as goal

pub returns-then-len-gt-PAGE_FIELDS : goal.returns-then-len-gt-PAGE_FIELDS
returns-then-len-gt-PAGE_FIELDS c = λ e.
    c.loop.invariant.left
    (rw (c.in_ok-found.ensures.found c.if-not-found.false) (wide_first _ _ (omega (arith, c.len.ensures))))

pub loop-preserved : goal.loop-preserved
loop-preserved c = record {
  stands = c.in_ok-found.ensures.stands c.if-not-found.false;
  left = λ w. c.loop.invariant.left (rw (c.in_ok-found.ensures.found c.if-not-found.false) (wide_later _ _ w));
}
