-- Tests of each number below another.
use Rattle.pocsag_text.proofs.Prelude.{◌≡◌, ℕ, zero, suc, ◌<◌, Bool, true, false, ◌&&◌, refl, arith, ⊎_elim, subst, and_parts, cases_lt}

-- whether each number below n passes
unfoldable pub all_below : ℕ → (ℕ → Bool) → Bool
all_below zero p = true
all_below (suc n) p = p n && all_below n p

pub and_left : (a b : Bool) → (a && b) ≡ true → a ≡ true
and_left true b h = refl
and_left false b h = h

pub passes : (n : ℕ) (p : ℕ → Bool) → all_below n p ≡ true → (k : ℕ) → k < n → p k ≡ true
unfolding all_below
passes zero p h k lt = absurd (omega arith)
passes (suc n) p h k lt =
    ⊎_elim (λ below. passes n p ((and_parts (p n) (all_below n p) h).1) k below)
    (λ above. let e : n ≡ k = omega arith in let P : ℕ → Type 0 = λ j. p j ≡ true in subst P e (and_left (p n) (all_below n p) h))
    (cases_lt k n)
