-- The tables of check bits hold what their columns give.
use Rattle.pocsag_words.proofs.Prelude.{◌≡◌, ℕ, suc, ◌+◌, ◌*◌, ◌/◌, ◌%◌, ◌^◌, ◌<◌, List, [], ◌∷◌, ◌++◌, length, bit_xor, map, slice_index, refl, sym, ap, ap₂, ◌∙◌, arith, add-one, xor_assoc, mod-pow-add, shr-shr, combine, columns, check_of}
use Rattle.std.specs.List.{range_with_len}
use Rattle.std.proofs.lemmas.List.FromFn.{get_or-map-range_with_len}
use Rattle.pocsag_words.specs.declared.checks.TheConstants.{LOW_CHECKS, MIDDLE_CHECKS, HIGH_CHECKS}

-- columns take no bit past their number
combine-mod : (ts : List ℕ) (n : ℕ) → combine ts (n % 2 ^ length ts) ≡ combine ts n
unfolding combine
combine-mod [] n = refl
combine-mod (t ∷ ts) n =
    let k = length ts in
    let e : n % 2 ^ suc k ≡ (n / 2 % 2 ^ k) * 2 + n % 2 = rw (← add-one k) (mod-pow-add n k 1) in
    ap₂ (λ (x y : ℕ). bit_xor (x * t) (combine ts y)) (omega (arith, e)) (omega (arith, e))
    ∙ ap (bit_xor (n % 2 * t)) (combine-mod ts (n / 2))

-- the bits that the first columns take, and then the others
combine-append : (ts us : List ℕ) (n m : ℕ) → m ≡ n / 2 ^ length ts → combine (ts ++ us) n ≡ bit_xor (combine ts n) (combine us m)
unfolding combine
combine-append [] us n m e = ap (combine us) (omega (arith, e))
combine-append (t ∷ ts) us n m e =
    ap (bit_xor (n % 2 * t)) (combine-append ts us (n / 2) m (e ∙ sym (shr-shr n 1 (length ts) ∙ ap (λ (j : ℕ). n / 2 ^ j) (omega arith))))
    ∙ sym (xor_assoc (n % 2 * t) (combine ts (n / 2)) (combine us m))

abbrev low_columns : List ℕ
low_columns = 0x6d3 ∷ 0x376 ∷ 0x6ec ∷ 0x30b ∷ 0x615 ∷ 0x2fa ∷ 0x5f4 ∷ []

abbrev middle_columns : List ℕ
middle_columns = 0x53b ∷ 0x4a6 ∷ 0x79f ∷ 0x1ee ∷ 0x3dc ∷ 0x7b8 ∷ 0x1a3 ∷ []

abbrev high_columns : List ℕ
high_columns = 0x345 ∷ 0x689 ∷ 0x3c2 ∷ 0x784 ∷ 0x1db ∷ 0x3b5 ∷ 0x769 ∷ []

columns_split : columns ≡ low_columns ++ (middle_columns ++ high_columns)
unfolding columns
columns_split = refl

low_table : LOW_CHECKS ≡ map (combine low_columns) (range_with_len 0 128)
unfolding combine
low_table = refl

middle_table : MIDDLE_CHECKS ≡ map (combine middle_columns) (range_with_len 0 128)
unfolding combine
middle_table = refl

high_table : HIGH_CHECKS ≡ map (combine high_columns) (range_with_len 0 128)
unfolding combine
high_table = refl

read : (ts table : List ℕ) (p : ℕ) → table ≡ map (combine ts) (range_with_len 0 128) → p < 128 → slice_index table p ≡ combine ts p
read ts table p e h = ap (λ xs. slice_index xs p) e ∙ get_or-map-range_with_len (combine ts) 0 128 p p 0 h (omega arith)

-- what the three tables give together
pub check_of_tables : (d : ℕ) → d < 2 ^ 21 →
    bit_xor (bit_xor (slice_index LOW_CHECKS (d % 128)) (slice_index MIDDLE_CHECKS (d / 128 % 128)))
    (slice_index HIGH_CHECKS (d / 16384)) ≡ check_of d
unfolding check_of
check_of_tables d h =
    let low = read low_columns LOW_CHECKS (d % 128) low_table (omega arith) ∙ combine-mod low_columns d in
    let middle = read middle_columns MIDDLE_CHECKS (d / 128 % 128) middle_table (omega arith) ∙ combine-mod middle_columns (d / 128) in
    let high = read high_columns HIGH_CHECKS (d / 16384) high_table (omega arith) in
    ap₂ bit_xor (ap₂ bit_xor low middle) high
    ∙ xor_assoc (combine low_columns d) (combine middle_columns (d / 128)) (combine high_columns (d / 16384))
    ∙ ap (bit_xor (combine low_columns d)) (sym (combine-append middle_columns high_columns (d / 128) (d / 16384) (omega arith)))
    ∙ sym (combine-append low_columns (middle_columns ++ high_columns) d (d / 128) refl)
    ∙ ap (λ ts. combine ts d) (sym columns_split)
