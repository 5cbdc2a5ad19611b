-- A layout's order is the only one, and the codewords by it are those of the steps.
use Rattle.pocsag_batch.proofs.Prelude.{◌≡◌, ℕ, ◌==◌, Bool, true, false, cond, List, [], ◌∷◌, ◌++◌, map, refl, sym, ap, ◌∙◌, eq-eqb, inl, inr, cases_eq, ne_eqb, End, Page, page_words, Step, laid, all_places, class_at, page_at, places_of, run_classes, laid_by, IsOrder, Idle, first_of, without_first}
use Rattle.pocsag_slots.specs.declared.step.Step.TheVariants.{Idle as Stay, Run}
use Rattle.pocsag_batch.proofs.ClassLists.{AreAlike, alike_same, alike_without, first_same, never_none, of_class_in, of_class_out, rest_same, without}
use Rattle.pocsag_batch.proofs.Places.{pages_placed}

pub one_order : (end : End) (R : List Page) (steps : List Step) (order other : List ℕ) → IsOrder end R steps order
    → IsOrder end R steps other → order ≡ other
one_order end R steps order other o p =
    alike_same (class_at end R) order other (o.classes ∙ sym p.classes) (λ c. o.in_turn c ∙ sym (p.in_turn c))

-- the first page of a class, and the others, where pages stand for their places
first_page : (end : End) (R : List Page) (c : ℕ) (left : List ℕ) (k : ℕ) (ks : List ℕ) → places_of end R c left ≡ k ∷ ks →
    first_of end c (map (page_at R) left) ≡ page_at R k
first_page end R c [] k ks e = never_none k ks (sym e)
first_page end R c (x ∷ left) k ks e =
    let other_first : Page = first_of end c (map (page_at R) left) in
    elim (cases_eq (class_at end R x) c) [
      | inl same ↦
          ap (λ b. cond b (page_at R x) other_first) (eq-eqb (class_at end R x) c same)
          ∙ ap (page_at R) (first_same x k (places_of end R c left) ks (sym (of_class_in (class_at end R) c x left same) ∙ e))
      | inr other ↦
          ap (λ b. cond b (page_at R x) other_first) (ne_eqb (class_at end R x) c other)
          ∙ first_page end R c left k ks (sym (of_class_out (class_at end R) c x left other) ∙ e)
    ]

other_step : (R : List Page) (b : Bool) (x : ℕ) (left others : List ℕ) (ps : List Page) → ps ≡ map (page_at R) others →
    cond b (map (page_at R) left) (page_at R x ∷ ps) ≡ map (page_at R) (cond b left (x ∷ others))
other_step R true x left others ps e = refl
other_step R false x left others ps e = ap (λ v. page_at R x ∷ v) e

other_pages : (end : End) (R : List Page) (c : ℕ) (left : List ℕ) →
    without_first end c (map (page_at R) left) ≡ map (page_at R) (without (class_at end R) c left)
other_pages end R c [] = refl
other_pages end R c (x ∷ left) =
    other_step R (class_at end R x == c) x left (without (class_at end R) c left) (without_first end c (map (page_at R) left))
    (other_pages end R c left)

-- an order of the places that are left
laid_left : (end : End) (R : List Page) (steps : List Step) (order left : List ℕ) → map (class_at end R) order ≡ run_classes steps →
    AreAlike (class_at end R) order left → laid_by R order steps ≡ laid end (map (page_at R) left) steps
laid_left end R [] order left m a = refl
laid_left end R (Stay ∷ ss) order left m a = ap (λ ws. Idle ∷ ws) (laid_left end R ss order left m a)
laid_left end R (Run c e ∷ ss) [] left m a = never_none c (run_classes ss) (sym m)
laid_left end R (Run c e ∷ ss) (k ∷ order) left m a =
    let f : ℕ → ℕ = class_at end R in
    let class : f k ≡ c = first_same (f k) c (map f order) (run_classes ss) m in
    let first : places_of end R c left ≡ k ∷ places_of end R c order = sym (a c) ∙ of_class_in f c k order class in
    let page : first_of end c (map (page_at R) left) ≡ page_at R k = first_page end R c left k (places_of end R c order) first in
    let others : AreAlike f order (without f c left) =
    rw (← class) (alike_without f k order left a) in
    let rest : laid_by R order ss ≡ laid end (map (page_at R) (without f c left)) ss =
    laid_left end R ss order (without f c left) (rest_same (f k) c (map f order) (run_classes ss) m) others in
    ap (λ ws. page_words (page_at R k) ++ ws) rest
    ∙ (ap (λ p. page_words p ++ laid end (map (page_at R) (without f c left)) ss) (sym page)
    ∙ ap (λ ps. page_words (first_of end c (map (page_at R) left)) ++ laid end ps ss) (sym (other_pages end R c left)))

pub order_lays : (end : End) (R : List Page) (steps : List Step) (order : List ℕ) → IsOrder end R steps order
    → laid_by R order steps ≡ laid end R steps
order_lays end R steps order o =
    laid_left end R steps order (all_places R) o.classes o.in_turn ∙ ap (λ ps. laid end ps steps) (pages_placed R)
