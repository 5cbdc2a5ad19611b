use Rattle.pocsag_plan.proofs.Prelude.{◌≡◌, ◌+◌, ◌<◌, ◌≤◌, List, length, get_or, take, subst, sym, arith, ap, sum_by, sum_by_more, Page, page_length, good_at}
use Rattle.pocsag_plan.proofs.plans.codewords_of.Goals as goal

pub loop-page-preserved : goal.loop-page-preserved
loop-page-preserved c =
    let p : Page = c.page-item.result in
    let k = c.loop-page.page-index in
    let pages : c.pages-page-items.result.now ≡ c.args.round.now = c.pages-page-items.ensures.pages in
    let within : k < length c.args.round.now = subst (λ (v : List Page). k < length v) pages c.loop-page-test.true in
    let is : p ≡ get_or c.args.round.now k p = subst (λ (v : List Page). p ≡ get_or v k p) pages c.page-item.is in
    let few : length p.payload ≤ 1400 = (good_at c.args.round.now k p c.pages-page-items.ensures.round within is).few in
    let long : length c.as_slice.result.now ≡ length p.payload = ap length c.as_slice.ensures in
    let more : sum_by page_length (take (k + 1) c.args.round.now) ≡ sum_by page_length (take k c.args.round.now) + page_length
    (get_or c.args.round.now k p) =
    sum_by_more page_length c.args.round.now k p within in
    let this : page_length (get_or c.args.round.now k p) ≡ page_length p = ap page_length (sym is) in
    (omega (arith, c.loop-page.invariant.0), omega (arith, c.loop-page.invariant.1))
