-- Lists by the classes of their elements: the elements of one class, and the list without the first of them.
use Rattle.pocsag_batch.proofs.Prelude.{◌≡◌, ℕ, ◌==◌, cond, List, [], ◌∷◌, length, map, drop, get_or, refl, sym, ap, ◌∙◌, arith, eq-eqb, inl, inr, filter, cases_eq, ne_eqb, IsPermutation, IsPermutation-cons, IsPermutation-refl, IsPermutation-remove, IsPermutation-sym, IsPermutation-trans}

pub first_same : {X : Type 0} (x y : X) (xs ys : List X) → x ∷ xs ≡ y ∷ ys → x ≡ y
first_same x y xs ys e = ap (λ v. get_or v 0 x) e

pub rest_same : {X : Type 0} (x y : X) (xs ys : List X) → x ∷ xs ≡ y ∷ ys → xs ≡ ys
rest_same x y xs ys e = ap (drop 1) e

pub never_none : {X : Type 0} {P : Type 0} (x : X) (xs : List X) → x ∷ xs ≡ [] → P
never_none x xs e = let long : length (x ∷ xs) ≡ 0 = ap length e in absurd (omega arith)

-- the elements of the class
abbrev pub of_class : {X : Type 0} → (X → ℕ) → ℕ → List X → List X
of_class f c xs = filter (λ x. f x == c) xs

-- all elements but the first of the class
abbrev pub without : {X : Type 0} → (X → ℕ) → ℕ → List X → List X
without f c [] = []
without f c (x ∷ xs) = cond (f x == c) xs (x ∷ without f c xs)

pub of_class_in : {X : Type 0} (f : X → ℕ) (c : ℕ) (x : X) (xs : List X) → f x ≡ c → of_class f c (x ∷ xs) ≡ x ∷ of_class f c xs
of_class_in f c x xs e = ap (λ b. cond b (x ∷ of_class f c xs) (of_class f c xs)) (eq-eqb (f x) c e)

pub of_class_out : {X : Type 0} (f : X → ℕ) (c : ℕ) (x : X) (xs : List X) → (f x ≡ c → ⊥) → of_class f c (x ∷ xs) ≡ of_class f c xs
of_class_out f c x xs n = ap (λ b. cond b (x ∷ of_class f c xs) (of_class f c xs)) (ne_eqb (f x) c n)

pub without_in : {X : Type 0} (f : X → ℕ) (c : ℕ) (x : X) (xs : List X) → f x ≡ c → without f c (x ∷ xs) ≡ xs
without_in f c x xs e = ap (λ b. cond b xs (x ∷ without f c xs)) (eq-eqb (f x) c e)

pub without_out : {X : Type 0} (f : X → ℕ) (c : ℕ) (x : X) (xs : List X) → (f x ≡ c → ⊥) → without f c (x ∷ xs) ≡ x ∷ without f c xs
without_out f c x xs n = ap (λ b. cond b xs (x ∷ without f c xs)) (ne_eqb (f x) c n)

-- the class without its first, and the other classes
pub class_left : {X : Type 0} (f : X → ℕ) (c : ℕ) (xs : List X) (k : X) (ks : List X) → of_class f c xs ≡ k ∷ ks
    → of_class f c (without f c xs) ≡ ks
class_left f c [] k ks e = never_none k ks (sym e)
class_left f c (x ∷ xs) k ks e =
    elim (cases_eq (f x) c) [
      | inl same ↦ ap (of_class f c) (without_in f c x xs same) ∙ rest_same x k (of_class f c xs) ks (sym (of_class_in f c x xs same) ∙ e)
      | inr other ↦
          ap (of_class f c) (without_out f c x xs other)
          ∙ (of_class_out f c x (without f c xs) other
          ∙ class_left f c xs k ks (sym (of_class_out f c x xs other) ∙ e))
    ]

pub others_left : {X : Type 0} (f : X → ℕ) (c d : ℕ) (xs : List X) → (c ≡ d → ⊥) → of_class f d (without f c xs) ≡ of_class f d xs
others_left f c d [] n = refl
others_left f c d (x ∷ xs) n =
    elim (cases_eq (f x) c) [
      | inl same ↦ ap (of_class f d) (without_in f c x xs same) ∙ sym (of_class_out f d x xs (λ e. n (sym same ∙ e)))
      | inr other ↦
          ap (of_class f d) (without_out f c x xs other)
          ∙ ap (λ v. cond (f x == d) (x ∷ v) v) (others_left f c d xs n)
    ]

swapped : {X : Type 0} (x y : X) (xs : List X) → IsPermutation (x ∷ y ∷ xs) (y ∷ x ∷ xs)
swapped x y xs = IsPermutation-remove (x ∷ y ∷ xs) 1 y (omega arith) refl

-- the first of the class may be moved to the front
pub first_moved : {X : Type 0} (f : X → ℕ) (c : ℕ) (xs : List X) (k : X) (ks : List X) → of_class f c xs ≡ k ∷ ks
    → IsPermutation xs (k ∷ without f c xs)
first_moved f c [] k ks e = never_none k ks (sym e)
first_moved f c (x ∷ xs) k ks e =
    elim (cases_eq (f x) c) [
      | inl same ↦
          let first : x ≡ k = first_same x k (of_class f c xs) ks (sym (of_class_in f c x xs same) ∙ e) in
          let all : x ∷ xs ≡ k ∷ without f c (x ∷ xs) = ap (λ y. y ∷ xs) first ∙ ap (λ v. k ∷ v) (sym (without_in f c x xs same)) in
          rw (← all) (IsPermutation-refl (x ∷ xs))
      | inr other ↦
          let rest : IsPermutation xs (k ∷ without f c xs) = first_moved f c xs k ks (sym (of_class_out f c x xs other) ∙ e) in
          rw (without_out f c x xs other)
          (IsPermutation-trans (x ∷ xs) (x ∷ k ∷ without f c xs) (k ∷ x ∷ without f c xs)
          (IsPermutation-cons x xs (k ∷ without f c xs) rest) (swapped x k (without f c xs)))
    ]

-- two lists with the same elements of each class
abbrev pub AreAlike : {X : Type 0} → (X → ℕ) → List X → List X → Type 0
AreAlike f xs ys = (c : ℕ) → of_class f c xs ≡ of_class f c ys

pub alike_without : {X : Type 0} (f : X → ℕ) (x : X) (xs ys : List X) → AreAlike f (x ∷ xs) ys → AreAlike f xs (without f (f x) ys)
alike_without f x xs ys a c =
    elim (cases_eq (f x) c) [
      | inl same ↦
          let first : of_class f (f x) ys ≡ x ∷ of_class f (f x) xs = sym (a (f x)) ∙ of_class_in f (f x) x xs refl in
          rw (← same) (sym (class_left f (f x) ys x (of_class f (f x) xs) first))
      | inr other ↦ sym (of_class_out f c x xs other) ∙ (a c ∙ sym (others_left f (f x) c ys other))
    ]

pub alike_permuted : {X : Type 0} (f : X → ℕ) (xs ys : List X) → AreAlike f xs ys → IsPermutation xs ys
alike_permuted f [] [] a = IsPermutation-refl []
alike_permuted f [] (y ∷ ys) a = never_none y (of_class f (f y) ys) (sym (of_class_in f (f y) y ys refl) ∙ sym (a (f y)))
alike_permuted f (x ∷ xs) ys a =
    let first : of_class f (f x) ys ≡ x ∷ of_class f (f x) xs = sym (a (f x)) ∙ of_class_in f (f x) x xs refl in
    let left = without f (f x) ys in
    IsPermutation-trans (x ∷ xs) (x ∷ left) ys
    (IsPermutation-cons x xs left (alike_permuted f xs left (alike_without f x xs ys a)))
    (IsPermutation-sym ys (x ∷ left) (first_moved f (f x) ys x (of_class f (f x) xs) first))

-- with the same classes in turn they are one list
pub alike_same : {X : Type 0} (f : X → ℕ) (xs ys : List X) → map f xs ≡ map f ys → AreAlike f xs ys → xs ≡ ys
alike_same f [] [] m a = refl
alike_same f [] (y ∷ ys) m a = never_none (f y) (map f ys) (sym m)
alike_same f (x ∷ xs) [] m a = never_none (f x) (map f xs) m
alike_same f (x ∷ xs) (y ∷ ys) m a =
    let class : f x ≡ f y = first_same (f x) (f y) (map f xs) (map f ys) m in
    let here : x ∷ of_class f (f x) xs ≡ y ∷ of_class f (f x) ys =
    sym (of_class_in f (f x) x xs refl) ∙ (a (f x) ∙ of_class_in f (f x) y ys (sym class)) in
    let first : x ≡ y = first_same x y (of_class f (f x) xs) (of_class f (f x) ys) here in
    let rest : AreAlike f xs ys =
    λ c.
    elim (cases_eq (f x) c) [
      | inl same ↦
          rw (← same) (rest_same x y (of_class f (f x) xs) (of_class f (f x) ys) here)
      | inr other ↦ sym (of_class_out f c x xs other) ∙ (a c ∙ of_class_out f c y ys (λ e. other (class ∙ e)))
    ] in
    ap (λ z. z ∷ xs) first ∙ ap (λ v. y ∷ v) (alike_same f xs ys (rest_same (f x) (f y) (map f xs) (map f ys) m) rest)
