use Rattle.pocsag_batch.proofs.Prelude.{◌≡◌, ◌+◌, ◌*◌, ◌<◌, ◌≤◌, length, get_or, drop, sym, ap, ◌∙◌, arith, Page, IsRound, left}
use Rattle.pocsag_batch.proofs.Layouts.{idled_length, laid_length, laid_more, laid_last, laid_batches, laid_legal}
use Rattle.pocsag_batch.proofs.PageLists.{good_at}
use Rattle.pocsag_batch.proofs.order.lay_in_order.Goals as goal

pub push_page-requires : goal.push_page-requires
push_page-requires c =
    good_at c.pages-page-items.result.now c.loop-page.page-index c.page-item.result
    (rw c.pages-page-items.ensures.pages c.pages-page-items.ensures.round) c.loop-page-test.true c.page-item.is

pub loop-page-preserved : goal.loop-page-preserved
loop-page-preserved c =
    let R = c.args.round.now in
    let p : Page = c.page-item.result in
    let k = c.loop-page.page-index in
    let pages : c.pages-page-items.result.now ≡ R = c.pages-page-items.ensures.pages in
    let within : k < length R = rw (← pages) c.loop-page-test.true in
    let is : p ≡ get_or R k p = rw (← pages) c.page-item.is in
    let good = good_at R k p c.pages-page-items.ensures.round within is in
    let gap = c.gap_to_frame.result in
    let long : length c.push_page.new.self ≡ length c.loop-page.words + gap + (1 + length p.payload) =
    laid_length p gap c.loop-page.words c.push_idles.new.self c.push_page.new.self c.in_ok-push_idles.ensures c.in_ok-push_page.ensures in
    let few : length p.payload ≤ 1400 = good.few in
    let near : gap < 16 = c.gap_to_frame.ensures.near in (
      laid_more R (drop (k + 1) R) p gap c.loop-page.words c.push_idles.new.self c.push_page.new.self
          c.in_ok-push_idles.ensures c.in_ok-push_page.ensures
          (rw c.len.ensures at c.gap_to_frame.ensures.least)
          (λ U order. c.loop-page.invariant.0 U
          (rw (left R k p within is) order)),
      omega arith,
    )

pub new-requires : goal.new-requires
new-requires c =
    let R = c.args.round.now in
    let round : IsRound R = c.pages-page-items.ensures.round in
    let pages : length c.pages-page-items.result.now ≡ length R = ap length c.pages-page-items.ensures.pages in
    let long : length c.push_idles-2.new.self ≡ length c.loop-page.words + c.gap_to_whole.result =
    idled_length c.gap_to_whole.result c.loop-page.words c.push_idles-2.new.self c.in_ok-push_idles-2.ensures in
    let few : length R ≤ 20000 = round.few in
    let near : c.gap_to_whole.result < 16 = c.gap_to_whole.ensures.near in
    let small : length c.loop-page.words ≤ 1416 * c.loop-page.page-index = c.loop-page.invariant.1 in
    let within : c.loop-page.page-index ≤ length R = omega arith in
    laid_batches R c.push_idles-2.new.self round.some (omega arith)
    (laid_last R c.loop-page.page-index c.gap_to_whole.result c.loop-page.words c.push_idles-2.new.self (omega arith)
    c.in_ok-push_idles-2.ensures (rw c.len-2.ensures at c.gap_to_whole.ensures.least) c.loop-page.invariant.0)

pub returns-clause-order : goal.returns-clause-order
returns-clause-order c =
    let R = c.args.round.now in
    let pages : length c.pages-page-items.result.now ≡ length R = ap length c.pages-page-items.ensures.pages in
    rw c.new.ensures
    (laid_last R c.loop-page.page-index c.gap_to_whole.result c.loop-page.words c.push_idles-2.new.self (omega arith)
    c.in_ok-push_idles-2.ensures (rw c.len-2.ensures at c.gap_to_whole.ensures.least) c.loop-page.invariant.0)

pub returns-clause-legal : goal.returns-clause-legal
returns-clause-legal c = (
  rw (← (c.words-2.view_is ∙ sym c.new.ensures)) c.words-2.invariant,
  laid_legal c.args.round.now c.new.result c.pages-page-items.ensures.round.some (returns-clause-order c),
)
