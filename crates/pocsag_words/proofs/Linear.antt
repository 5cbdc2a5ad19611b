-- Sums without carry are linear over two elements.
use Rattle.pocsag_words.proofs.Prelude.{◌≡◌, ℕ, ◌*◌, ◌/◌, ◌%◌, ◌^◌, ◌⊎◌, List, [], ◌∷◌, bit_xor, map, refl, sym, ap, ap₂, ◌∙◌, inl, inr, arith, zero-mul, one-mul, xor_assoc, xor_self, xor_zero_r, xor_zero_l, xor_mod, xor_shr, xor_comm, combine}

-- f takes sums without carry to sums without carry
pub record IsLinear (f : ℕ → ℕ) : Type 0 where
  pub at_zero : f 0 ≡ 0
  pub at_xor : (a b : ℕ) → f (bit_xor a b) ≡ bit_xor (f a) (f b)

pub bit_cases : (n : ℕ) → (n % 2 ≡ 0) ⊎ (n % 2 ≡ 1)
bit_cases n = grind arith

pub xor_turned : (a b c d : ℕ) → bit_xor (bit_xor a b) (bit_xor c d) ≡ bit_xor (bit_xor a c) (bit_xor b d)
xor_turned a b c d =
    xor_assoc a b (bit_xor c d)
    ∙ ap (bit_xor a) (sym (xor_assoc b c d) ∙ ap (λ (x : ℕ). bit_xor x d) (xor_comm b c) ∙ xor_assoc c b d)
    ∙ sym (xor_assoc a c (bit_xor b d))

-- a sum is 0 only where its parts are equal
pub same_from_xor : (a b : ℕ) → bit_xor a b ≡ 0 → a ≡ b
same_from_xor a b h =
    sym (xor_zero_r a) ∙ ap (bit_xor a) (sym (xor_self b)) ∙ sym (xor_assoc a b b) ∙ ap (λ (x : ℕ). bit_xor x b) h ∙ xor_zero_l b

pub xor_cancel : (a b : ℕ) → bit_xor (bit_xor a b) b ≡ a
xor_cancel a b = xor_assoc a b b ∙ ap (bit_xor a) (xor_self b) ∙ xor_zero_r a

pub xor_scaled : (x y t : ℕ) → (x ≡ 0) ⊎ (x ≡ 1) → (y ≡ 0) ⊎ (y ≡ 1) → bit_xor x y * t ≡ bit_xor (x * t) (y * t)
xor_scaled x y t (inl p) (inl q) = rw (p, q, zero-mul) refl
xor_scaled x y t (inl p) (inr q) = rw (p, q, zero-mul, one-mul) refl
xor_scaled x y t (inr p) (inl q) = rw (p, q, zero-mul, one-mul) (sym (xor_zero_r t))
xor_scaled x y t (inr p) (inr q) = rw (p, q, zero-mul, one-mul) (sym (xor_self t))

pub combine-zero : (ts : List ℕ) → combine ts 0 ≡ 0
unfolding combine
combine-zero [] = refl
combine-zero (t ∷ ts) = ap₂ bit_xor (zero-mul t) (combine-zero ts)

pub combine-xor : (ts : List ℕ) (a b : ℕ) → combine ts (bit_xor a b) ≡ bit_xor (combine ts a) (combine ts b)
unfolding combine
combine-xor [] a b = refl
combine-xor (t ∷ ts) a b =
    ap₂ bit_xor (ap (λ (x : ℕ). x * t) (xor_mod a b 1) ∙ xor_scaled (a % 2) (b % 2) t (bit_cases a) (bit_cases b))
    (ap (combine ts) (xor_shr a b 1) ∙ combine-xor ts (a / 2) (b / 2))
    ∙ xor_turned (a % 2 * t) (b % 2 * t) (combine ts (a / 2)) (combine ts (b / 2))

pub IsLinear-combine : (ts : List ℕ) → IsLinear (combine ts)
IsLinear-combine ts = record { at_zero = combine-zero ts; at_xor = combine-xor ts }

pub IsLinear-mod : (k : ℕ) → IsLinear (λ n. n % 2 ^ k)
IsLinear-mod k = record { at_zero = omega arith; at_xor = λ a b. xor_mod a b k }

pub IsLinear-div : (k : ℕ) → IsLinear (λ n. n / 2 ^ k)
IsLinear-div k = record { at_zero = omega arith; at_xor = λ a b. xor_shr a b k }

scaled : (f : ℕ → ℕ) → IsLinear f → (x t : ℕ) → (x ≡ 0) ⊎ (x ≡ 1) → f (x * t) ≡ x * f t
scaled f linear x t (inl p) = rw p (simp zero-mul linear.at_zero)
scaled f linear x t (inr p) = rw p (simp one-mul)

-- a linear function of a sum of columns is the sum of its columns
pub combine_image : (f : ℕ → ℕ) → IsLinear f → (ts : List ℕ) (n : ℕ) → f (combine ts n) ≡ combine (map f ts) n
unfolding combine
combine_image f linear [] n = linear.at_zero
combine_image f linear (t ∷ ts) n =
    linear.at_xor (n % 2 * t) (combine ts (n / 2))
    ∙ ap₂ bit_xor (scaled f linear (n % 2) t (bit_cases n)) (combine_image f linear ts (n / 2))
