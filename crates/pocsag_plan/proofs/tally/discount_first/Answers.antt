use Rattle.pocsag_plan.proofs.Prelude.{◌≡◌, ◌+◌, ℕ, ◌<◌, ◌≤◌, [], ◌∷◌, All, List, drop, get_or, length, take, arith, subst, ◌∙◌, get_or-take, length-drop, length-take-le, All-drop, IsGoodPage, page_limit, Page, good_pages, left, AreClassesOf}
use Rattle.pocsag_plan.proofs.tally.discount_first.Goals as goal

-- the pages that are left begin with the next of those that are taken out
next_left : (R : List Page) (count k : ℕ) (p : Page) → count ≤ length R → k < length (take count R) → p ≡ get_or (take count R) k p →
    drop k R ≡ p ∷ drop (k + 1) R
next_left R count k p among low is =
    let first : k < count = omega (arith, low, length-take-le count R among) in
    left R k p (omega (arith, first, among)) (is ∙ get_or-take count R k p first)

pub discount_page-requires : goal.discount_page-requires
discount_page-requires c =
    let R = c.args.pages.now in
    let k = c.loop-page.page-index in
    let split = next_left R c.args.count k c.page-item.result c.requires.among c.loop-page-test.true c.page-item.is in
    record {
      before = [];
      after = drop (k + 1) R;
      counted = subst (λ (ps : List Page). AreClassesOf c.loop-page.classes c.args.end ps) split c.loop-page.invariant;
      few = subst (λ (ps : List Page). length ps ≤ page_limit) split (omega (arith, length-drop k R, c.requires.few));
      good = subst (All IsGoodPage) split (All-drop IsGoodPage k R (good_pages R c.requires.good));
    }

pub loop-page-preserved : goal.loop-page-preserved
loop-page-preserved c =
    let R = c.args.pages.now in
    let k = c.loop-page.page-index in
    c.discount_page.ensures [] (drop (k + 1) R)
    (subst (λ (ps : List Page). AreClassesOf c.loop-page.classes c.args.end ps)
    (next_left R c.args.count k c.page-item.result c.requires.among c.loop-page-test.true c.page-item.is) c.loop-page.invariant)
