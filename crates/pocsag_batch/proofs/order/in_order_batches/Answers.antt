use Rattle.pocsag_batch.proofs.Prelude.{◌≡◌, ◌+◌, ◌<◌, ◌≤◌, length, get_or, drop, arith, ap, Page, left}
use Rattle.pocsag_batch.proofs.FileOrders.{left_step}
use Rattle.pocsag_batch.proofs.PageLists.{good_at}
use Rattle.pocsag_batch.proofs.order.in_order_batches.Goals as goal

pub loop-page-preserved : goal.loop-page-preserved
loop-page-preserved c =
    let p : Page = c.page-item.result in
    let k = c.loop-page.page-index in
    let pages : c.pages-page-items.result.now ≡ c.args.round.now = c.pages-page-items.ensures.pages in
    let within : k < length c.args.round.now = rw (← pages) c.loop-page-test.true in
    let is : p ≡ get_or c.args.round.now k p = rw (← pages) c.page-item.is in
    let good = good_at c.args.round.now k p c.pages-page-items.ensures.round within is in
    let long : length c.as_slice.result.now ≡ length p.payload = ap length c.as_slice.ensures in
    let few : length p.payload ≤ 1400 = good.few in (
      λ T f.
          rw long
          (left_step c.loop-page.index c.gap_to_frame-index.result (length T) p
          (drop (k + 1) c.args.round.now) c.gap_to_frame-index.ensures.least
          (rw (← (left c.args.round.now k p within is)) (c.loop-page.invariant.0 T f))),
      omega arith,
    )
