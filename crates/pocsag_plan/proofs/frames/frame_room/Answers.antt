use Rattle.pocsag_plan.proofs.Prelude.{◌≡◌, ◌≤◌, true, false, ap, arith, length, rules, Page, page_length, starts_in}
use Rattle.pocsag_plan.proofs.FrameRooms.{counted_in, counted_out, page_short}
use Rattle.pocsag_plan.proofs.frames.frame_room.Goals.{then-page-frame, else-page-frame}
use Rattle.pocsag_plan.proofs.frames.frame_room.Goals as goal

pub loop-page-preserved : goal.loop-page-preserved
loop-page-preserved c =
    let p : Page = c.page-item.result in
    let k = c.loop-page.page-index in
    let low = c.loop-page-test.true in
    let here = c.page-item.is in
    let short : page_length p ≤ 1401 = page_short c.args.pages.now k p low here c.requires.round.good in
    let so_far = c.loop-page.invariant in
    elim c.if-page-frame.branch [
      | then-page-frame w ↦
          let in_frame : starts_in c.args.frame p ≡ true = search rules in
          let more = counted_in c.args.frame c.args.pages.now k p low here in_frame in
          record {
            pages = omega (arith, w.count-is, so_far.pages, more.0);
            few = omega (arith, w.count-is, so_far.few);
            codewords = omega (arith, w.codewords-is, so_far.codewords, more.1, ap length w.as_slice.ensures);
            small = omega (arith, w.codewords-is, so_far.small, short, ap length w.as_slice.ensures);
          }
      | else-page-frame w ↦
          let other : starts_in c.args.frame p ≡ false = search rules in
          let same = counted_out c.args.frame c.args.pages.now k p low here other in
          record {
            pages = omega (arith, w.count-is, so_far.pages, same.0);
            few = omega (arith, w.count-is, so_far.few);
            codewords = omega (arith, w.codewords-is, so_far.codewords, same.1);
            small = omega (arith, w.codewords-is, so_far.small);
          }
    ]
