use Rattle.pocsag_plan.proofs.Prelude.{◌≡◌, ◌+◌, ◌-◌, ◌<◌, ◌≤◌, [], ◌∷◌, ◌++◌, All, length, take, arith, subst, length-take-le, All-take, IsGoodPage, page_limit, good_pages, taken, good_at, AreClassesOf}
use Rattle.pocsag_plan.proofs.front.recount.Goals as goal

pub count_page-requires : goal.count_page-requires
count_page-requires c =
    let R = c.args.pages.now in
    let k = c.loop-counted.counted in
    let within : k < length R = omega (arith, c.requires.to) in
    let long = length-take-le k R c.loop-counted.invariant.among in
    record {
      pages = take k R;
      counted = c.loop-counted.invariant.counted;
      room = omega (arith, long, within, c.requires.round.few);
      good = All-take IsGoodPage k R (good_pages R c.requires.round.good);
      good_page = good_at R k c.index-pages-counted.result c.requires.round within c.index-pages-counted.is;
    }

pub discount_page-requires : goal.discount_page-requires
discount_page-requires c =
    let R = c.args.pages.now in
    let k = c.loop-counted-2 in
    let i = k.counted - 1 in
    let page = c.index-pages-counted-in-loop-counted-2 in
    let within : i < length R = omega (arith, k.invariant.among, c.loop-counted-2-test.true) in
    let next : k.counted ≡ i + 1 = omega (arith, c.loop-counted-2-test.true) in
    let counted : AreClassesOf k.classes c.args.end (take (i + 1) R) =
    subst (λ n. AreClassesOf k.classes c.args.end (take n R)) next k.invariant.counted in
    let split : take (i + 1) R ≡ take i R ++ page.result ∷ [] = taken R i page.result within page.is in
    let long : length (take (i + 1) R) ≡ i + 1 = length-take-le (i + 1) R (omega arith) in
    record {
      before = take i R;
      after = [];
      counted = subst (AreClassesOf k.classes c.args.end) split counted;
      few = subst (λ ps. length ps ≤ page_limit) split (omega (arith, long, c.requires.round.few));
      good = subst (All IsGoodPage) split (All-take IsGoodPage (i + 1) R (good_pages R c.requires.round.good));
    }
