-- What is reported of a front, and of the pages behind it.
use Rattle.pocsag_c.proofs.Prelude.{◌≡◌, ◌≤◌, ◌⊎◌, ℕ, List, ◌++◌, All, drop, length, sym, ap, ◌∙◌, subst, arith, All-drop, All-weaker, verdict, Page, AreGood, IsGoodPage, IsRound, page_limit, good_pages, IsSpellable, page_file, IsPlanFor, PrintsFault, StatusAt, IsFront, IsWithoutFront}
use Rattle.std.proofs.Common.{length-drop}
use Rattle.std.proofs.Math.Seq.{drop-append_seam}
use Rattle.pocsag_pages.specs.Listable.{IsListable}
use Rattle.pocsag_pages.specs.PageList.{unless_empty}
use Rattle.pocsag_pages.proofs.FirstPages.{good_last}
use Rattle.pocsag_plan.specs.declared.bounded.BoundedPlan.{BoundedPlan}
use Rattle.pocsag_plan.specs.declared.search.Search.{Search}
use Rattle.pocsag_c.specs.declared.refusal.Place.{Place}

-- a fault of which this is said is told with its place
pub told : {F : Type 0} (refusal : F → StatusAt) (Explains : F → Type 0) (f : F) (r : StatusAt) (status : ℕ) (place : Place) → Explains f
    → r ≡ refusal f → status ≡ r.status → place ≡ r.place → PrintsFault refusal Explains status place
told refusal Explains f r status place why value same_status same_place = record {
  fault = f;
  why = why;
  same_status = same_status ∙ ap (λ (s : StatusAt). s.status) value;
  same_place = same_place ∙ ap (λ (s : StatusAt). s.place) value;
}

-- the status of a front is none of a fault
pub front_is : (status : ℕ) → IsFront status → IsWithoutFront status ⊎ (status ≡ 2) → ⊥
front_is status front other = grind arith

-- The first pages of a round, with their plan, and the pages that are left.
module _ (search : Search) (R F S : List Page) (bounded : BoundedPlan) (parts : F ++ S ≡ R) (planned : IsPlanFor search F bounded) where
  left_behind : S ≡ drop bounded.plan.pages R
  left_behind = sym (ap (λ (n : ℕ). drop n R) planned.plan_of.pages ∙ (ap (drop (length F)) (sym parts) ∙ drop-append_seam F S))

  pub left_listable : IsRound R → All IsListable S
  left_listable round =
      subst (All IsListable) (sym left_behind)
      (All-weaker IsGoodPage IsListable (λ p g. record { function = g.function; items = g.small }) (drop bounded.plan.pages R)
      (good_pages (drop bounded.plan.pages R) (good_last bounded.plan.pages R round.good)))

  pub left_counted : (n : ℕ) → n ≡ length S → n ≡ length (drop bounded.plan.pages R)
  left_counted n long = long ∙ ap length left_behind

  -- the page file that is written of these is read as them
  pub left_read : IsRound R → All IsSpellable R →
      ((ps : List Page) → AreGood ps → length ps ≤ page_limit → All IsSpellable ps → verdict (page_file ps) ≡ unless_empty ps) →
      (file : List ℕ) → file ≡ page_file S → verdict file ≡ unless_empty (drop bounded.plan.pages R)
  left_read round texts read_back file written =
      let K = bounded.plan.pages in
      let few : length (drop K R) ≤ page_limit = omega (arith, length-drop K R, round.few) in
      ap verdict (written ∙ ap page_file left_behind)
      ∙ read_back (drop K R) (good_last K R round.good) few (All-drop IsSpellable K R texts)
