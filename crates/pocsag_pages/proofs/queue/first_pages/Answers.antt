use Rattle.pocsag_pages.proofs.Prelude.{◌≡◌, ◌∙◌, ◌∷◌, [], ◌++◌, length, sym, ap, arith, length-append}
use Rattle.pocsag_pages.proofs.QueueParts.{firsts_longer, firsts_over, firsts_same, never_empty, value_is}
use Rattle.pocsag_pages.proofs.queue.first_pages.Goals as goal

pub loop-page-preserved-then-has : goal.loop-page-preserved-then-has
loop-page-preserved-then-has c = record {
  few = omega (arith, c.loop-page.invariant.few);
  rest = firsts_same _ _ _ c.page-item.result c.loop-page-test.true c.page-item.is c.loop-page.invariant.rest (sym c.has.ensures ∙ c.if-has.true);
}

pub loop-page-preserved : goal.loop-page-preserved
loop-page-preserved c =
    let builder = c.loop-page.builder in
    let p = c.page-item.result in
    let copied = rw c.in-Some.is at c.in_ok-longer.ensures.longer in
    let longer : c.in-Some.longer ≡ builder ++ p ∷ [] = rw c.in_ok-copy.ensures at copied in
    record {
      few = omega (arith, c.loop-page.invariant.few, ap length longer, length-append builder (p ∷ []));
      rest = firsts_longer _ builder _ p c.loop-page-test.true c.page-item.is c.loop-page.invariant.rest c.in-Some.longer
          (sym c.has.ensures ∙ c.if-has.false) longer;
    }

pub unreachable-requires-in-Err : goal.unreachable-requires-in-Err
unreachable-requires-in-Err c =
    never_empty c.args.queue.now c.loop-page.builder c.loop-page.page-index c.in-Err.field-0 c.requires.some c.loop-page-test.false
    c.loop-page.invariant.rest (sym c.into_round.ensures ∙ c.in-Err.is)

pub returns : goal.returns
returns c =
    value_is c.loop-page.builder c.in-Ok.round (sym c.into_round.ensures ∙ c.in-Ok.is)
    ∙ firsts_over c.args.queue.now c.loop-page.builder c.loop-page.page-index c.loop-page-test.false c.loop-page.invariant.rest
