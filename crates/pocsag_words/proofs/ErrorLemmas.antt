-- Errors of at most two bits are known by their syndromes.
use Rattle.pocsag_words.proofs.Prelude.{◌≡◌, ◌≢◌, ℕ, zero, suc, ◌+◌, ◌/◌, ◌%◌, ◌^◌, ◌<◌, ◌≤◌, Bool, true, eqb, ltb, leb, ◌&&◌, ◌||◌, List, [], ◌∷◌, length, slice_index, replicate, IsTrue, nat_eq, ◌↔◌, ◌⊎◌, bit_xor, count_ones, subst, refl, sym, ap, ap₂, ◌∙◌, inl, inr, arith, lit<, xor_self, xor_mod, xor_shr, xor_lt, xor_comm, ones_le_self, ones_step, pow-suc, and_parts, or_cases, eqb-true, leb-true, ltb-true, cases_eq, cases_lt, IsCodeword, IsOnlyNear, HasNoneNear, combine, columns, check_of, syndrome_of, ERRORS}
use Rattle.std.proofs.lemmas.Bool.{eq-eqb}
use Rattle.pocsag_words.proofs.Linear.{combine-xor, xor_turned, xor_cancel, same_from_xor}
use Rattle.pocsag_words.proofs.BlockCode.{IsCodeword-low, IsCodeword-from_low, check_of-lt, combine_ones}
use Rattle.pocsag_words.proofs.Sparse.{all_sparse, sparse, split}

pub syndrome_of-xor : (a b : ℕ) → syndrome_of (bit_xor a b) ≡ bit_xor (syndrome_of a) (syndrome_of b)
unfolding syndrome_of check_of
syndrome_of-xor a b =
    ap₂ bit_xor (xor_mod a b 11) (ap (combine columns) (xor_shr a b 11) ∙ combine-xor columns (a / 2048) (b / 2048))
    ∙ xor_turned (a % 2048) (b % 2048) (combine columns (a / 2048)) (combine columns (b / 2048))

pub syndrome_of-codeword : (w : ℕ) → IsCodeword w → syndrome_of w ≡ 0
unfolding syndrome_of
syndrome_of-codeword w is = ap (λ (x : ℕ). bit_xor x (check_of (w / 2048))) (IsCodeword-low w is) ∙ xor_self (check_of (w / 2048))

pub IsCodeword-from_syndrome : (w : ℕ) → w < 2 ^ 32 → syndrome_of w ≡ 0 → IsCodeword w
unfolding syndrome_of
IsCodeword-from_syndrome w h e = IsCodeword-from_low w h (same_from_xor _ _ e)

pub syndrome_of-lt : (n : ℕ) → syndrome_of n < 2048
unfolding syndrome_of
syndrome_of-lt n = xor_lt 11 (n % 2048) (check_of (n / 2048)) (omega arith) (check_of-lt (n / 2048))

-- the test that the code makes
pub codeword_test : (w s : ℕ) → w < 2 ^ 32 → s ≡ syndrome_of w → IsTrue (nat_eq s 0) ↔ IsCodeword w
codeword_test w s h e =
    (λ t. IsCodeword-from_syndrome w h (sym e ∙ eqb-true _ _ t), λ is. eq-eqb _ _ (e ∙ syndrome_of-codeword w is))

-- the table holds each error of at most two bits at its syndrome
found_all : all_sparse 32 2 (λ e. eqb (slice_index ERRORS (syndrome_of e)) e) ≡ true
unfolding syndrome_of check_of combine columns
found_all = refl

found : (e : ℕ) → e < 2 ^ 32 → count_ones e ≤ 2 → slice_index ERRORS (syndrome_of e) ≡ e
found e small few = eqb-true _ _ (sparse 32 2 (λ n. eqb (slice_index ERRORS (syndrome_of n)) n) found_all e small few)

-- the ones of a number of k bits, by a count that computes
unfoldable ones_below : ℕ → ℕ → ℕ
ones_below zero n = 0
ones_below (suc k) n = n % 2 + ones_below k (n / 2)

ones_below_is : (k n : ℕ) → n < 2 ^ k → ones_below k n ≡ count_ones n
unfolding ones_below
ones_below_is zero n h = omega (arith, ones_le_self n)
ones_below_is (suc k) n h = ap (λ (x : ℕ). n % 2 + x) (ones_below_is k (n / 2) (omega (arith, pow-suc 2 k))) ∙ sym (ones_step n)

-- each entry from this syndrome on is an error of at most two bits with that syndrome, or none
unfoldable are_sound : ℕ → List ℕ → Bool
are_sound s [] = true
are_sound s (e ∷ es) = (eqb e 0xffffffff || (eqb (syndrome_of e) s && (leb (ones_below 32 e) 2 && ltb e (2 ^ 32)))) && are_sound (s + 1) es

sound_all : are_sound 0 ERRORS ≡ true
unfolding syndrome_of check_of combine columns are_sound ones_below
sound_all = refl

-- the number is an error of at most two bits with this syndrome
record IsError (syndrome e : ℕ) : Type 0 where
  pub fits : e < 2 ^ 32
  pub few : count_ones e ≤ 2
  pub gives : syndrome_of e ≡ syndrome

sound_at : (s : ℕ) (es : List ℕ) (i j : ℕ) → are_sound s es ≡ true → i < length es → j ≡ s + i → slice_index es i ≢ 0xffffffff →
    IsError j (slice_index es i)
unfolding are_sound
sound_at s [] i j all h e far = absurd (omega arith)
sound_at s (x ∷ xs) zero j all h e far =
    let parts = and_parts _ _ all in
    elim (or_cases _ _ parts.0) [
      | inl none ↦ absurd (far (eqb-true _ _ none))
      | inr holds ↦
          let first = and_parts _ _ holds in
          let second = and_parts _ _ first.1 in
          record {
            fits = ltb-true _ _ second.1;
            few = subst (λ (n : ℕ). n ≤ 2) (ones_below_is 32 x (ltb-true _ _ second.1)) (leb-true _ _ second.0);
            gives = eqb-true _ _ first.0 ∙ omega arith;
          }
    ]
sound_at s (x ∷ xs) (suc i) j all h e far =
    let parts =
    and_parts (eqb x 0xffffffff || (eqb (syndrome_of x) s && (leb (ones_below 32 x) 2 && ltb x (2 ^ 32)))) (are_sound (s + 1) xs) all in
    sound_at (s + 1) xs i j parts.1 (omega arith) (omega arith) far

sound : (s : ℕ) → s < 2048 → slice_index ERRORS s ≢ 0xffffffff → IsError s (slice_index ERRORS s)
sound s h far = sound_at 0 ERRORS s s sound_all h (omega arith) far

-- what differs from a codeword by an error has that error's syndrome
difference_syndrome : (v n : ℕ) → IsCodeword v → syndrome_of (bit_xor v n) ≡ syndrome_of n
difference_syndrome v n is = syndrome_of-xor v n ∙ ap (λ (x : ℕ). bit_xor x (syndrome_of n)) (syndrome_of-codeword v is)

found_near : (v n : ℕ) → n < 2 ^ 32 → IsCodeword v → count_ones (bit_xor v n) ≤ 2 → slice_index ERRORS (syndrome_of n) ≡ bit_xor v n
found_near v n small is few =
    ap (slice_index ERRORS) (sym (difference_syndrome v n is)) ∙ found (bit_xor v n) (xor_lt 32 v n is.fits small) few

not_few : ¬ (32 ≤ 2)
not_few h = omega arith

many : ¬ (count_ones 0xffffffff ≤ 2)
unfolding ones_below
many h = not_few (subst (λ (n : ℕ). n ≤ 2) (sym (ones_below_is 32 0xffffffff (lit< tt))) h)

pub HasNoneNear-from_far : (n : ℕ) → n < 2 ^ 32 → slice_index ERRORS (syndrome_of n) ≡ 0xffffffff → HasNoneNear n
HasNoneNear-from_far n small far v is few =
    many (subst (λ (x : ℕ). count_ones x ≤ 2) (sym (found_near v n small is few) ∙ far) few)

IsCodeword-mended : (n e : ℕ) → n < 2 ^ 32 → IsError (syndrome_of n) e → IsCodeword (bit_xor n e)
IsCodeword-mended n e small is =
    IsCodeword-from_syndrome (bit_xor n e) (xor_lt 32 n e small is.fits)
    (syndrome_of-xor n e ∙ ap (bit_xor (syndrome_of n)) is.gives ∙ xor_self (syndrome_of n))

mended_back : (n e : ℕ) → bit_xor (bit_xor n e) n ≡ e
mended_back n e = ap (λ (x : ℕ). bit_xor x n) (xor_comm n e) ∙ xor_cancel e n

pub IsOnlyNear-mended : (n e : ℕ) → n < 2 ^ 32 → e ≡ slice_index ERRORS (syndrome_of n) → e ≢ 0xffffffff → IsOnlyNear n (bit_xor n e)
IsOnlyNear-mended n e small at far =
    let is : IsError (syndrome_of n) e =
    subst (λ (x : ℕ). IsError (syndrome_of n) x) (sym at) (sound (syndrome_of n) (syndrome_of-lt n) (λ none. far (at ∙ none))) in
    record {
      codeword = IsCodeword-mended n e small is;
      near = subst (λ (x : ℕ). count_ones x ≤ 2) (sym (mended_back n e)) is.few;
      only = λ u also few.
          sym (xor_cancel u n) ∙ xor_comm (bit_xor u n) n ∙ ap (bit_xor n) (sym (found_near u n small also few) ∙ sym at);
    }

pub numbers_are_repaired_lem : (n : ℕ) → n < 2 ^ 32 → HasNoneNear n ⊎ ((v : ℕ) × IsOnlyNear n v)
numbers_are_repaired_lem n small =
    elim (cases_eq (slice_index ERRORS (syndrome_of n)) 0xffffffff) [
      | inl far ↦ inl (HasNoneNear-from_far n small far)
      | inr near ↦ inr (bit_xor n (slice_index ERRORS (syndrome_of n)), IsOnlyNear-mended n _ small refl near)
    ]

-- ---- two different codewords differ in at least six bits

sparse_same : (a b : ℕ) → a < 2 ^ 32 → b < 2 ^ 32 → count_ones a ≤ 2 → count_ones b ≤ 2 → syndrome_of a ≡ syndrome_of b → a ≡ b
sparse_same a b h k p q e = sym (found a h p) ∙ ap (slice_index ERRORS) e ∙ found b k q

parity-xor : (a b : ℕ) → a < 2 ^ 32 → b < 2 ^ 32 → count_ones a % 2 ≡ 0 → count_ones b % 2 ≡ 0 → count_ones (bit_xor a b) % 2 ≡ 0
parity-xor a b h k p q =
    sym (combine_ones 32 (bit_xor a b) (xor_lt 32 a b h k)) ∙ combine-xor (replicate 32 1) a b
    ∙ ap₂ bit_xor (combine_ones 32 a h ∙ p) (combine_ones 32 b k ∙ q)

few_same : (v w : ℕ) → IsCodeword v → IsCodeword w → count_ones (bit_xor v w) ≤ 4 → v ≡ w
few_same v w is also few =
    let s = split 32 2 2 (bit_xor v w) (xor_lt 32 v w is.fits also.fits) few in
    let none : syndrome_of (bit_xor v w) ≡ 0 = difference_syndrome v w is ∙ syndrome_of-codeword w also in
    let e : syndrome_of s.left ≡ syndrome_of s.right =
    same_from_xor _ _ (sym (syndrome_of-xor s.left s.right) ∙ ap syndrome_of (sym s.sum) ∙ none) in
    let same : s.left ≡ s.right = sparse_same _ _ s.left_fits s.right_fits s.left_few s.right_few e in
    same_from_xor v w (s.sum ∙ ap (λ (x : ℕ). bit_xor x s.right) same ∙ xor_self s.right)

pub codewords_differ_lem : (v w : ℕ) → IsCodeword v → IsCodeword w → v ≢ w → 6 ≤ count_ones (bit_xor v w)
codewords_differ_lem v w is also apart =
    let even = parity-xor v w is.fits also.fits is.even also.even in
    elim (cases_lt (count_ones (bit_xor v w)) 5) [
      | inl few ↦ absurd (apart (few_same v w is also (omega arith)))
      | inr many ↦ omega arith
    ]
