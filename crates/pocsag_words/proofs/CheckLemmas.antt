-- The sums of bits are 0 exactly where the syndrome is.
use Rattle.pocsag_words.proofs.Prelude.{◌≡◌, ℕ, ◌*◌, ◌/◌, ◌%◌, ◌^◌, ◌<◌, ◌↔◌, List, [], ◌∷◌, IsTrue, nat_eq, bit_xor, map, refl, sym, ap, ap₂, ◌∙◌, arith, eq-eqb, add-zero, zero-mul, eqb-true, xor_mod, xor_shr, xor_block, pow_pos, moved, pair_of, spread_of, three_of, product_of, checks_of, IsCodeword, combine, columns, check_of, syndrome_of}
use Rattle.pocsag_words.proofs.Linear.{IsLinear, IsLinear-combine, combine_image, combine-zero, bit_cases, xor_turned, xor_scaled}
use Rattle.pocsag_words.proofs.BlockCode.{doublings, combine_powers}
use Rattle.pocsag_words.proofs.ErrorLemmas.{syndrome_of-xor, syndrome_of-codeword, syndrome_of-lt, IsCodeword-from_syndrome}

IsLinear-number : IsLinear (λ n. n)
IsLinear-number = record { at_zero = refl; at_xor = λ a b. refl }

IsLinear-sum : (f g : ℕ → ℕ) → IsLinear f → IsLinear g → IsLinear (λ n. bit_xor (f n) (g n))
IsLinear-sum f g p q = record {
  at_zero = ap₂ bit_xor p.at_zero q.at_zero;
  at_xor = λ a b. ap₂ bit_xor (p.at_xor a b) (q.at_xor a b) ∙ xor_turned (f a) (f b) (g a) (g b);
}

IsLinear-moved : (k : ℕ) (f : ℕ → ℕ) → IsLinear f → IsLinear (λ n. moved k (f n))
unfolding moved
IsLinear-moved k f p = record {
  at_zero = ap (λ (n : ℕ). n * 2 ^ k % 2 ^ 32) (p.at_zero) ∙ ap (λ (n : ℕ). n % 2 ^ 32) (zero-mul (2 ^ k));
  at_xor = λ a b.
      let block = simp add-zero at (xor_block k (f a) (f b) 0 0 (pow_pos k) (pow_pos k)) in
      ap (λ (n : ℕ). n * 2 ^ k % 2 ^ 32) (p.at_xor a b) ∙ ap (λ (n : ℕ). n % 2 ^ 32) (sym block) ∙ xor_mod (f a * 2 ^ k) (f b * 2 ^ k) 32;
}

IsLinear-pair_of : IsLinear pair_of
unfolding pair_of
IsLinear-pair_of = IsLinear-sum _ _ IsLinear-number (IsLinear-moved 1 _ IsLinear-number)

IsLinear-spread_of : IsLinear spread_of
unfolding spread_of
IsLinear-spread_of = IsLinear-sum _ _ IsLinear-number (IsLinear-moved 2 _ IsLinear-number)

IsLinear-three_of : IsLinear three_of
unfolding three_of
IsLinear-three_of = IsLinear-sum _ _ IsLinear-pair_of (IsLinear-moved 2 _ IsLinear-number)

IsLinear-product_of : IsLinear product_of
unfolding product_of
IsLinear-product_of =
    let low = IsLinear-sum _ _ IsLinear-three_of (IsLinear-moved 5 _ IsLinear-three_of) in
    let middle = IsLinear-sum _ _ low (IsLinear-moved 11 _ IsLinear-spread_of) in
    let high = IsLinear-sum _ _ middle (IsLinear-moved 16 _ IsLinear-pair_of) in
    IsLinear-sum _ _ high (IsLinear-moved 20 _ IsLinear-number)

IsLinear-turned : IsLinear (λ n. n % 2 * 0xffffffff)
IsLinear-turned = record {
  at_zero = refl;
  at_xor = λ a b. ap (λ (x : ℕ). x * 0xffffffff) (xor_mod a b 1) ∙ xor_scaled (a % 2) (b % 2) 0xffffffff (bit_cases a) (bit_cases b);
}

IsLinear-checks_of : IsLinear checks_of
unfolding checks_of
IsLinear-checks_of =
    let sum = IsLinear-sum _ _ IsLinear-product_of IsLinear-turned in
    record {
      at_zero = ap (λ (n : ℕ). n / 2 ^ 21) sum.at_zero;
      at_xor =
          λ a b. ap (λ (n : ℕ). n / 2 ^ 21) (sum.at_xor a b)
          ∙ xor_shr (bit_xor (product_of a) (a % 2 * 0xffffffff)) (bit_xor (product_of b) (b % 2 * 0xffffffff)) 21;
    }

IsLinear-syndrome_of : IsLinear syndrome_of
unfolding syndrome_of check_of combine columns
IsLinear-syndrome_of = record { at_zero = refl; at_xor = syndrome_of-xor }

-- a linear function of 32 bits by its columns
by_columns : (f : ℕ → ℕ) → IsLinear f → (n : ℕ) → n < 2 ^ 32 → f n ≡ combine (map f (doublings 32 1)) n
by_columns f linear n h =
    ap f (sym (combine_powers 32 0 n h ∙ omega arith)) ∙ combine_image f linear (doublings 32 (2 ^ 0)) n

-- the sums of bits at the low 11 bits
abbrev low_checks : List ℕ
low_checks = 2047 ∷ 1 ∷ 2 ∷ 4 ∷ 9 ∷ 19 ∷ 38 ∷ 76 ∷ 153 ∷ 306 ∷ 613 ∷ []

-- and the low 11 bits by the sums of bits
abbrev low_bits : List ℕ
low_bits = 2 ∷ 4 ∷ 8 ∷ 18 ∷ 38 ∷ 76 ∷ 154 ∷ 310 ∷ 622 ∷ 1244 ∷ 1897 ∷ []

checks_columns : map checks_of (doublings 32 1) ≡ map (combine low_checks) (map syndrome_of (doublings 32 1))
unfolding checks_of product_of three_of spread_of pair_of moved syndrome_of check_of combine columns doublings
checks_columns = refl

inverse : map (combine low_bits) low_checks ≡ doublings 11 1
unfolding combine doublings
inverse = refl

checks_by_syndrome : (n : ℕ) → n < 2 ^ 32 → checks_of n ≡ combine low_checks (syndrome_of n)
checks_by_syndrome n h =
    by_columns checks_of IsLinear-checks_of n h ∙ ap (λ ts. combine ts n) checks_columns
    ∙ sym (combine_image (combine low_checks) (IsLinear-combine low_checks) (map syndrome_of (doublings 32 1)) n)
    ∙ ap (combine low_checks) (sym (by_columns syndrome_of IsLinear-syndrome_of n h))

syndrome_by_checks : (n : ℕ) → n < 2 ^ 32 → syndrome_of n ≡ combine low_bits (checks_of n)
syndrome_by_checks n h =
    sym (combine_powers 11 0 (syndrome_of n) (syndrome_of-lt n) ∙ omega arith)
    ∙ ap (λ ts. combine ts (syndrome_of n)) (sym inverse)
    ∙ sym (combine_image (combine low_bits) (IsLinear-combine low_bits) low_checks (syndrome_of n))
    ∙ ap (combine low_bits) (sym (checks_by_syndrome n h))

-- the test that the lanes make
pub checks_test : (n c : ℕ) → n < 2 ^ 32 → c ≡ checks_of n → IsTrue (nat_eq c 0) ↔ IsCodeword n
checks_test n c h e = (
  λ t. IsCodeword-from_syndrome n h (syndrome_by_checks n h ∙ ap (combine low_bits) (sym e ∙ eqb-true _ _ t) ∙ combine-zero low_bits),
  λ is. eq-eqb _ _ (e ∙ checks_by_syndrome n h ∙ ap (combine low_checks) (syndrome_of-codeword n is) ∙ combine-zero low_checks),
)
