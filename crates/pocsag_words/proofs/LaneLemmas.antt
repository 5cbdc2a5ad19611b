-- Vectors of eight lanes.
use Rattle.pocsag_words.proofs.Prelude.{◌≡◌, ℕ, ◌*◌, ◌%◌, ◌⊎◌, List, [], ◌∷◌, length, cond, eqb, Bool, map, drop, set, slice_index, IsTrue, ◌+◌, ◌≤◌, ◌<◌, ◌↔◌, bit_and, refl, sym, ap, ◌∙◌, subst, false, inl, inr, arith, length-drop, cases_eq, IsCodeword, TellFirst, and_mask}
use Rattle.std.proofs.lemmas.List.{get_or-map, get_or-drop, get_or-set_same, get_or-set_other}
use Rattle.std.proofs.lemmas.Simd.{length-chunk, get_or-chunk}
use lib.Lanes.{top, chunk}
use Rattle.pocsag_words.proofs.Linear.{bit_cases}

pub record IsEight (xs : List ℕ) : Type 0 where
  pub a : ℕ
  pub b : ℕ
  pub c : ℕ
  pub d : ℕ
  pub e : ℕ
  pub f : ℕ
  pub g : ℕ
  pub h : ℕ
  pub is : xs ≡ a ∷ b ∷ c ∷ d ∷ e ∷ f ∷ g ∷ h ∷ []

pub eight_lanes : (xs : List ℕ) → length xs ≡ 8 → IsEight xs
eight_lanes (a ∷ b ∷ c ∷ d ∷ e ∷ f ∷ g ∷ h ∷ []) n =
    record { a = a; b = b; c = c; d = d; e = e; f = f; g = g; h = h; is = refl }
eight_lanes _ n = absurd (omega arith)

turned_at : (x b : ℕ) → (b ≡ x) → (x ≡ 0) ⊎ (x ≡ 1) → cond (top 31 (cond (eqb b 1) 0xffffffff 0)) 0xffffffff 0 ≡ x * 0xffffffff
turned_at x b e (inl p) = rw (e, p) refl
turned_at x b e (inr p) = rw (e, p) refl

-- the lane that is turned where its number is odd
pub turned : (n : ℕ) → cond (top 31 (cond (eqb (bit_and n 1) 1) 0xffffffff 0)) 0xffffffff 0 ≡ n % 2 * 0xffffffff
turned n = turned_at (n % 2) (bit_and n 1) (and_mask n 1) (bit_cases n)

-- a lane of what was computed from eight numbers of a list
pub lane_at : (f : ℕ → ℕ) (xs ys : List ℕ) (start k : ℕ) → ys ≡ map f (chunk 0 8 (drop start xs)) → start + 8 ≤ length xs → k < 8 →
    slice_index ys k ≡ f (slice_index xs (start + k))
lane_at f xs ys start k e room h =
    let long : k < length (chunk 0 8 (drop start xs)) =
    omega (arith, length-chunk 0 8 (drop start xs) (omega (arith, length-drop start xs))) in
    ap (λ zs. slice_index zs k) e ∙ get_or-map f (chunk 0 8 (drop start xs)) k 0 0 long
    ∙ ap f (get_or-chunk 0 8 (drop start xs) k 0 h ∙ ap (slice_index (drop start xs)) (omega arith) ∙ get_or-drop start xs k 0)

-- one flag more
pub TellFirst-set : (numbers : List ℕ) (flags : List Bool) (n m : ℕ) (b : Bool) → m ≡ n + 1 → n < length flags →
    TellFirst n numbers flags → IsTrue b ↔ IsCodeword (slice_index numbers n) → TellFirst m numbers (set flags n b)
TellFirst-set numbers flags n m b e h before here k small =
    elim (cases_eq k n) [
      | inl same ↦
          rw same
          (subst (λ (x : Bool). IsTrue x ↔ IsCodeword (slice_index numbers n)) (sym (get_or-set_same flags n b false h)) here)
      | inr other ↦
          subst (λ (x : Bool). IsTrue x ↔ IsCodeword (slice_index numbers k)) (sym (get_or-set_other flags n k b false other))
          (before k (omega arith))
    ]
