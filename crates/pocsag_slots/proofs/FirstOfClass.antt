-- Taking the first page of a class out of a list.
use Rattle.pocsag_slots.proofs.Prelude.{◌≡◌, ℕ, ◌+◌, ◌<◌, ◌==◌, Bool, true, false, cond, List, [], ◌∷◌, refl, sym, ap, subst, ◌∙◌, arith, IsPermutation, eqb-true, IsPermutation-cons, IsPermutation-refl, IsPermutation-remove, IsPermutation-trans, sum_by-IsPermutation, sum_by-cons, End, Page, first_of, without_first, class_of_page, count_of}

-- the first page of the class, and the others
pub record IsTaken (end : End) (c : ℕ) (R : List Page) (p : Page) (left : List Page) : Type 0 where
  pub class : class_of_page end p ≡ c
  pub moved : IsPermutation R (p ∷ left)

swapped : (p q : Page) (left : List Page) → IsPermutation (p ∷ q ∷ left) (q ∷ p ∷ left)
swapped p q left = IsPermutation-remove (p ∷ q ∷ left) 1 q (omega arith) refl

take_step : (end : End) (c : ℕ) (p : Page) (R : List Page) (b : Bool) → (class_of_page end p == c) ≡ b → 0 < cond b 1 0 + count_of end R c →
    (0 < count_of end R c → IsTaken end c R (first_of end c R) (without_first end c R)) →
    IsTaken end c (p ∷ R) (cond b p (first_of end c R)) (cond b R (p ∷ without_first end c R))
take_step end c p R true is some rest = record { class = eqb-true (class_of_page end p) c is; moved = IsPermutation-refl (p ∷ R) }
take_step end c p R false is some rest =
    let t = rest (omega arith) in
    record {
      class = t.class;
      moved = IsPermutation-trans (p ∷ R) (p ∷ first_of end c R ∷ without_first end c R) (first_of end c R ∷ p ∷ without_first end c R)
          (IsPermutation-cons p R (first_of end c R ∷ without_first end c R) t.moved)
          (swapped p (first_of end c R) (without_first end c R));
    }

pub taken : (end : End) (c : ℕ) (R : List Page) → 0 < count_of end R c → IsTaken end c R (first_of end c R) (without_first end c R)
taken end c [] some = absurd (omega arith)
taken end c (p ∷ R) some =
    take_step end c p R (class_of_page end p == c) refl
    (subst (λ (n : ℕ). 0 < n) (sum_by-cons (λ q. cond (class_of_page end q == c) 1 0) p R) some)
    (taken end c R)

-- what is left of each class
pub left_counts : (end : End) (c : ℕ) (R : List Page) (p : Page) (left : List Page) → IsTaken end c R p left →
    (d : ℕ) → count_of end R d ≡ cond (c == d) 1 0 + count_of end left d
left_counts end c R p left t d =
    let all : count_of end (p ∷ left) d ≡ count_of end R d =
    sum_by-IsPermutation (λ q. cond (class_of_page end q == d) 1 0) R (p ∷ left) t.moved in
    let first : count_of end (p ∷ left) d ≡ cond (class_of_page end p == d) 1 0 + count_of end left d =
    sum_by-cons (λ q. cond (class_of_page end q == d) 1 0) p left in
    sym all ∙ (first ∙ ap (λ (k : ℕ). cond (k == d) 1 0 + count_of end left d) t.class)
