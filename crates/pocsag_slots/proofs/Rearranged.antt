-- The pages of a legal transmission are those of the round, in some order.
use Rattle.pocsag_slots.proofs.Prelude.{◌≡◌, ℕ, zero, suc, ◌<◌, List, [], ◌∷◌, length, sym, ap, subst, arith, All, ◌⊎◌, inl, inr, IsPermutation, nil_from_length, IsPermutation-cons, IsPermutation-refl, IsPermutation-remove, IsPermutation-trans, Contains-permutation, length_permutation, Page, AreApart, get_or, Contains, remove, IsPermutation-sym}
use Rattle.pocsag_pages.proofs.PageLists.{apart_rest}

tail_or_head : (r x : Page) (xs : List Page) (m : ℕ) → m < length (r ∷ xs) → get_or (r ∷ xs) m x ≡ x → (r ≡ x) ⊎ Contains xs x
tail_or_head r x xs zero h e = inl e
tail_or_head r x xs (suc m) h e = inr (m, omega arith, e)

pub rearranged : (R ps : List Page) → AreApart R → length ps ≡ length R → All (Contains ps) R → IsPermutation R ps
rearranged [] ps a long each =
    let none : ps ≡ [] = nil_from_length ps long in
    subst (λ (v : List Page). IsPermutation [] v) (sym none) (IsPermutation-refl [])
rearranged (r ∷ R) ps a long each =
    let first : Contains ps r = each 0 r (omega arith) in
    let moved : IsPermutation ps (r ∷ remove ps first.0) = IsPermutation-remove ps first.0 r first.1 (sym first.2) in
    let lengths : length (r ∷ remove ps first.0) ≡ length ps = length_permutation ps (r ∷ remove ps first.0) moved in
    let others : All (Contains (remove ps first.0)) R =
    λ j d h.
    let x : Page = get_or R j d in
    let there : Contains (r ∷ remove ps first.0) x =
    Contains-permutation ps (r ∷ remove ps first.0) x moved (each (suc j) d (omega arith)) in
    elim (tail_or_head r x (remove ps first.0) there.0 there.1 there.2) [
      | inl same ↦ absurd (a 0 (suc j) d (omega arith) (omega arith) (ap (λ (p : Page). p.address) same))
      | inr found ↦ found
    ] in
    IsPermutation-trans (r ∷ R) (r ∷ remove ps first.0) ps
    (IsPermutation-cons r R (remove ps first.0) (rearranged R (remove ps first.0) (apart_rest r R a) (omega arith) others))
    (IsPermutation-sym ps (r ∷ remove ps first.0) moved)
