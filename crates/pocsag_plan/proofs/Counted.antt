-- The class table of a round has a page.
use Rattle.pocsag_plan.proofs.Prelude.{◌≡◌, ℕ, ◌+◌, ◌<◌, ◌==◌, Bool, cond, List, [], ◌∷◌, length, arith, ap, refl, eq-eqb, slice_index, End, Page, Classes, AreClassesOf, class_of_page, count_of, page_class_below, count_of-cons, HasPage}

-- the class of the first page has a page
pub has_page : (k : Classes) (end : End) (R : List Page) → AreClassesOf k end R → 0 < length R → HasPage k
has_page k end [] classes some = absurd (omega arith)
has_page k end (p ∷ R) classes some =
    let class : ℕ = class_of_page end p in
    let known : class < 136 = page_class_below end p in
    let here : count_of end (p ∷ R) class ≡ cond (class == class) 1 0 + count_of end R class = count_of-cons end p R class in
    let same : cond {A = ℕ} (class == class) 1 0 ≡ 1 = ap (λ (b : Bool). cond {A = ℕ} b 1 0) (eq-eqb class class refl) in
    let counted : slice_index k.count class ≡ count_of end (p ∷ R) class = classes.count class known in
    record { class = class; known = known; some = omega arith }
