-- What a page file of pages spells is read back.
use Rattle.pocsag_decode.proofs.Prelude.{◌≡◌, ℕ, zero, suc, ◌+◌, ◌-◌, ◌*◌, ◌/◌, ◌≤◌, ◌==◌, Bool, inl, inr, false, List, [], ◌∷◌, ◌++◌, length, map, replicate, position, take, All, nat_lt, refl, sym, ap, ◌∙◌, subst, arith, append_assoc, None, Ok, flat_map, length-append, length-map, length-replicate, map-append, replicate-append-replicate, take_at, cases_Bool, eqb-true, ne_eqb, nat_tests, All-append, All-replicate, All-take, position_or_len, item_digits, spaced, code_or_space, is_bad_digit, numeric_bits, numeric_payload, numeric_text, short_of, text_fault, trim_end, trimmed_onto, twenties, fault_none, numeric_payload-good, unless_ok, numeric_text-back}
use Rattle.std.proofs.lemmas.List.Sums.{position_or_len_is}
use Rattle.pocsag_words.proofs.TruthValues.{not_above}
use Rattle.pocsag_text.specs.Bits.{high_number, low_first}
use Rattle.pocsag_text.proofs.BitLists.{length-low_first}
use Rattle.pocsag_text.specs.Characters as T
use Rattle.pocsag_text.proofs.Cuts.{length-cut, length-flat_map-wide}

-- a list is what is left of it, and then what was unwanted
fill_onto : (c x : ℕ) (xs t : List ℕ) → (n : ℕ) × (xs ≡ t ++ replicate n c) → (n : ℕ) × (x ∷ xs ≡ trimmed_onto c x t ++ replicate n c)
fill_onto c x xs [] h = elim (cases_Bool (x == c)) [
  | inl same ↦ (suc h.0, rw (same, eqb-true x c same) (ap (λ (l : List ℕ). c ∷ l) h.1))
  | inr other ↦ (h.0, rw other (ap (λ (l : List ℕ). x ∷ l) h.1))
]
fill_onto c x xs (y ∷ t) h = (h.0, ap (λ (l : List ℕ). x ∷ l) h.1)

trimmed_fill : (c : ℕ) (xs : List ℕ) → (n : ℕ) × (xs ≡ trim_end c xs ++ replicate n c)
unfolding trim_end
trimmed_fill c [] = (0, refl)
trimmed_fill c (x ∷ xs) = fill_onto c x xs (trim_end c xs) (trimmed_fill c xs)

good_space : is_bad_digit 32 ≡ false
unfolding T.numeric_characters
good_space = refl

spaces_coded : (n : ℕ) → map code_or_space (replicate n 32) ≡ replicate n 12
unfolding T.numeric_characters
spaces_coded zero = refl
spaces_coded (suc n) = ap (λ (l : List ℕ). 12 ∷ l) (spaces_coded n)

-- a text's characters and its fill, by what is left of it
codes_filled : (t : List ℕ) (n : ℕ) → map code_or_space (t ++ replicate n 32) ≡ map code_or_space t ++ replicate n 12
codes_filled t n = map-append code_or_space t (replicate n 32) ∙ ap (λ (l : List ℕ). map code_or_space t ++ l) (spaces_coded n)

whole : (t : List ℕ) (n : ℕ) →
    map code_or_space (t ++ replicate n 32) ++ replicate (short_of 5 (length (t ++ replicate n 32))) 12
    ≡ map code_or_space t ++ replicate (n + short_of 5 (length t + n)) 12
whole t n =
    let long : length (t ++ replicate n 32) ≡ length t + n = length-append t (replicate n 32) ∙ ap (λ (k : ℕ). length t + k) (length-replicate n 32) in
    rw (codes_filled t n, long)
    (append_assoc (map code_or_space t) (replicate n 12) (replicate (short_of 5 (length t + n)) 12)
    ∙ ap (λ (l : List ℕ). map code_or_space t ++ l) (replicate-append-replicate n (short_of 5 (length t + n)) 12))

pub same_bits : (t : List ℕ) (n m : ℕ) → n + short_of 5 (length t + n) ≡ m + short_of 5 (length t + m)
    → numeric_bits (t ++ replicate n 32) ≡ numeric_bits (t ++ replicate m 32)
unfolding numeric_bits
same_bits t n m e =
    ap (flat_map (low_first 4)) (whole t n ∙ ap (λ (k : ℕ). map code_or_space t ++ replicate k 12) e ∙ sym (whole t m))

-- a text without a fault, from its length and its bytes
none_bad : (is_bad : ℕ → Bool) (text : List ℕ) → All (λ b. is_bad b ≡ false) text → position is_bad text ≡ None
none_bad is_bad text good =
    let past : position_or_len is_bad text ≡ length text =
    position_or_len_is is_bad text (length text) 0 (omega arith) (λ k h. good k 0 h) (λ h. absurd (omega arith)) in
    let over : nat_lt (length text) (length text) ≡ false = grind (arith, nat_tests) in
    rw (past, over) refl

fault_free : (is_bad : ℕ → Bool) (text : List ℕ) → (length text ≡ 0 → ⊥) → length text ≤ 4000 → All (λ b. is_bad b ≡ false) text →
    text_fault is_bad text ≡ None
unfolding text_fault
fault_free is_bad text some few good = rw (ne_eqb _ _ some, none_bad is_bad text good, not_above 4000 (length text) few) refl

item_count : (text : List ℕ) → 5 * length (twenties (numeric_bits text)) ≡ length text + short_of 5 (length text)
unfolding numeric_bits
item_count text =
    let n = short_of 5 (length text) in
    let codes = map code_or_space text in
    let bits = flat_map (low_first 4) (codes ++ replicate n 12) in
    let filled = length-replicate {A = ℕ} n 12 in
    let joined = length-append codes (replicate n 12) in
    let wide = length-flat_map-wide 4 (low_first 4) (codes ++ replicate n 12) (length-low_first 4) in
    let cuts = length-cut 20 (high_number 0) (length bits / 20) bits in
    omega (arith, cuts, wide, joined, filled, length-map text code_or_space)

-- the payload of a numeric text is that of the text that a page file has for it
pub spaced_back : (text : List ℕ) (item : ℕ) (items : List ℕ) → numeric_payload text ≡ Ok (item ∷ items) →
    (numeric_payload (spaced (item_digits * length items + 1) (numeric_text (item ∷ items))) ≡ Ok (item ∷ items))
    × (length (spaced (item_digits * length items + 1) (numeric_text (item ∷ items))) ≤ 4000)
unfolding numeric_payload
spaced_back text item items e =
    let p = unless_ok (text_fault is_bad_digit text) (twenties (numeric_bits text)) (item ∷ items) e in
    let good = fault_none is_bad_digit text p.0 in
    let u : List ℕ = trim_end 32 text in
    let fill = trimmed_fill 32 text in
    let n : ℕ = fill.0 in
    let k : ℕ = 5 * length items + 1 - length u in
    let shown : numeric_text (item ∷ items) ≡ u = numeric_text-back text (item ∷ items) e in
    let long : length text ≡ length u + n = ap length fill.1 ∙ length-append u (replicate n 32) ∙ ap (λ (j : ℕ). length u + j) (length-replicate n 32) in
    let count : length (twenties (numeric_bits text)) ≡ length (item ∷ items) = ap length p.1 in
    let wide : length text + short_of 5 (length text) ≡ 5 * (length items + 1) = omega (arith, count, item_count text) in
    let same : numeric_bits text ≡ numeric_bits (u ++ replicate k 32) =
    ap numeric_bits fill.1 ∙ same_bits u n k (omega arith) in
    let kept : length (u ++ replicate k 32) ≡ length u + k = length-append u (replicate k 32) ∙ ap (λ (j : ℕ). length u + j) (length-replicate k 32) in
    let few : length (u ++ replicate k 32) ≤ 4000 = omega (arith, good.0) in
    let front : take (length u) text ≡ u = ap (take (length u)) fill.1 ∙ take_at u (replicate n 32) (length u) refl in
    let good_front : All (λ b. is_bad_digit b ≡ false) u =
    subst (All (λ b. is_bad_digit b ≡ false)) front (All-take (λ b. is_bad_digit b ≡ false) (length u) text good.1) in
    let free : text_fault is_bad_digit (u ++ replicate k 32) ≡ None =
    fault_free is_bad_digit (u ++ replicate k 32) (λ z. omega arith) few
    (All-append (λ b. is_bad_digit b ≡ false) u (replicate k 32) good_front (All-replicate (λ b. is_bad_digit b ≡ false) k 32 good_space)) in
    rw shown (numeric_payload-good (u ++ replicate k 32) free ∙ ap (λ (b : List ℕ). Ok (twenties b)) (sym same) ∙ ap Ok p.1, few)
