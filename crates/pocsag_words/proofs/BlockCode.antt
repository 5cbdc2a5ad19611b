-- *Codeword*, both ways: a number is a codeword exactly where its low 11 bits are the check bits of its data.
use Rattle.pocsag_words.proofs.Prelude.{◌≡◌, ℕ, zero, suc, ◌+◌, ◌*◌, ◌/◌, ◌%◌, ◌^◌, ◌<◌, ◌⊎◌, Bool, true, ltb, ◌&&◌, List, [], ◌∷◌, bit_xor, count_ones, map, replicate, refl, sym, ap, ap₂, ◌∙◌, inl, inr, subst, arith, zero-mul, one-mul, mul-zero, xor_shifted, ones_step, pow-suc, xor_comm, xor_lt, pow_pos, ones_le_self, and_parts, ltb-true, generator, IsCodeword, combine, columns, check_of}
use Rattle.pocsag_words.specs.Carryless.{carryless}
use Rattle.pocsag_words.proofs.Linear.{IsLinear-combine, IsLinear-mod, IsLinear-div, combine_image, bit_cases}

-- a, and each number the double of the one before
unfoldable pub doublings : ℕ → ℕ → List ℕ
doublings zero a = []
doublings (suc k) a = a ∷ doublings k (2 * a)

carryless_is : (k a b : ℕ) → carryless k a b ≡ combine (doublings k a) b
unfolding carryless combine doublings
carryless_is zero a b = refl
carryless_is (suc k) a b = ap (bit_xor (b % 2 * a)) (carryless_is k (2 * a) (b / 2))

half_of : (n h r p : ℕ) → n ≡ h * 2 + r → h * (p * 2) + r * p ≡ n * p
half_of n h r p e = rw e (omega arith)

scaled_lt : (x t p : ℕ) → x < 2 → t < p → x * t < p
scaled_lt zero t p h k = simp zero-mul (omega arith)
scaled_lt (suc zero) t p h k = simp one-mul (omega arith)
scaled_lt (suc (suc x)) t p h k = absurd (omega arith)

twice_lt : (x p r : ℕ) → x < 2 → 0 < p → r ≡ p * 2 → x * p < r
twice_lt zero p r h k e = simp zero-mul (omega arith)
twice_lt (suc zero) p r h k e = simp one-mul (omega arith)
twice_lt (suc (suc x)) p r h k e = absurd (omega arith)

-- the number itself is the sum of the powers at its set bits
pub combine_powers : (k a n : ℕ) → n < 2 ^ k → combine (doublings k (2 ^ a)) n ≡ n * 2 ^ a
unfolding combine doublings
combine_powers zero a n h = let e : n ≡ 0 = omega arith in rw e (sym (zero-mul (2 ^ a)))
combine_powers (suc k) a n h =
    let doubled : 2 * 2 ^ a ≡ 2 ^ suc a = omega (arith, pow-suc 2 a) in
    let small : n / 2 < 2 ^ k = omega (arith, pow-suc 2 k) in
    ap (λ (x : ℕ). bit_xor (n % 2 * 2 ^ a) (combine (doublings k x) (n / 2))) doubled
    ∙ ap (bit_xor (n % 2 * 2 ^ a)) (combine_powers k (suc a) (n / 2) small)
    ∙ xor_comm (n % 2 * 2 ^ a) (n / 2 * 2 ^ suc a)
    ∙ xor_shifted (n / 2) (suc a) (n % 2 * 2 ^ a) (twice_lt (n % 2) (2 ^ a) (2 ^ suc a) (omega arith) (pow_pos a) (pow-suc 2 a))
    ∙ ap (λ (x : ℕ). n / 2 * x + n % 2 * 2 ^ a) (pow-suc 2 a)
    ∙ half_of n (n / 2) (n % 2) (2 ^ a) (omega arith)

parity_sum : (x c : ℕ) → (x ≡ 0) ⊎ (x ≡ 1) → (c % 2 ≡ 0) ⊎ (c % 2 ≡ 1) → bit_xor (x * 1) (c % 2) ≡ (x + c) % 2
parity_sum x c (inl p) (inl q) = rw (p, q) (omega (arith, q))
parity_sum x c (inl p) (inr q) = rw (p, q) (omega (arith, q))
parity_sum x c (inr p) (inl q) = rw (p, q) (omega (arith, q))
parity_sum x c (inr p) (inr q) = rw (p, q) (omega (arith, q))

-- the parity of the ones of a number
pub combine_ones : (k n : ℕ) → n < 2 ^ k → combine (replicate k 1) n ≡ count_ones n % 2
unfolding combine
combine_ones zero n h =
    let none : count_ones n ≡ 0 = omega (arith, ones_le_self n) in
    rw none refl
combine_ones (suc k) n h =
    let small : n / 2 < 2 ^ k = omega (arith, pow-suc 2 k) in
    ap (bit_xor (n % 2 * 1)) (combine_ones k (n / 2) small)
    ∙ parity_sum (n % 2) (count_ones (n / 2)) (bit_cases n) (bit_cases (count_ones (n / 2)))
    ∙ ap (λ (x : ℕ). x % 2) (sym (ones_step n))

combine_none : (k n : ℕ) → combine (replicate k 0) n ≡ 0
unfolding combine
combine_none zero n = refl
combine_none (suc k) n = ap₂ bit_xor (mul-zero (n % 2)) (combine_none k (n / 2))

-- every column is below the limit
abbrev are_below : ℕ → List ℕ → Bool
are_below limit [] = true
are_below limit (t ∷ ts) = ltb t limit && are_below limit ts

combine-lt : (k : ℕ) (ts : List ℕ) (n : ℕ) → are_below (2 ^ k) ts ≡ true → combine ts n < 2 ^ k
unfolding combine
combine-lt k [] n h = pow_pos k
combine-lt k (t ∷ ts) n h =
    let parts = and_parts (ltb t (2 ^ k)) (are_below (2 ^ k) ts) h in
    xor_lt k (n % 2 * t) (combine ts (n / 2)) (scaled_lt (n % 2) t (2 ^ k) (omega arith) (ltb-true _ _ parts.0))
    (combine-lt k ts (n / 2) parts.1)

-- ---- the codewords of one data bit each make all codewords

abbrev words : List ℕ
words =
    0xed3 ∷ 0x1376 ∷ 0x26ec ∷ 0x430b ∷ 0x8615 ∷ 0x102fa ∷ 0x205f4 ∷ 0x4053b ∷ 0x804a6 ∷ 0x10079f ∷ 0x2001ee ∷ 0x4003dc ∷ 0x8007b8 ∷
    0x10001a3 ∷ 0x2000345 ∷ 0x4000689 ∷ 0x80003c2 ∷ 0x10000784 ∷ 0x200001db ∷ 0x400003b5 ∷ 0x80000769 ∷ []

-- what each of them is the generator times of
abbrev quotients : List ℕ
quotients =
    1 ∷ 3 ∷ 6 ∷ 13 ∷ 26 ∷ 53 ∷ 106 ∷ 213 ∷ 427 ∷ 855 ∷ 1711 ∷ 3422 ∷ 6844 ∷ 13689 ∷ 27378 ∷ 54756 ∷ 109513 ∷ 219026 ∷ 438053 ∷ 876106 ∷
    1752212 ∷ []

words_half : map (λ n. n / 2 ^ 1) words ≡ map (combine (doublings 21 generator)) quotients
unfolding combine doublings
words_half = refl

words_parity : map (combine (replicate 32 1)) words ≡ replicate 21 0
unfolding combine
words_parity = refl

words_data : map (λ n. n / 2 ^ 11) words ≡ doublings 21 (2 ^ 0)
unfolding doublings
words_data = refl

words_low : map (λ n. n % 2 ^ 11) words ≡ columns
unfolding columns
words_low = refl

-- the codeword of each bit of the quotient
abbrev multiples : List ℕ
multiples = map (λ t. 2 * t + 1) (doublings 21 generator)

multiples_half : map (λ n. n / 2 ^ 1) multiples ≡ doublings 21 generator
unfolding doublings
multiples_half = refl

multiples_parity : map (combine (replicate 32 1)) multiples ≡ replicate 21 0
unfolding combine doublings
multiples_parity = refl

multiples_low : map (λ n. n % 2 ^ 11) multiples ≡ map (combine columns) (map (λ n. n / 2 ^ 11) multiples)
unfolding combine doublings columns
multiples_low = refl

-- the codeword that carries the data
word_of : ℕ → ℕ
word_of d = combine words d

word_of-data : (d : ℕ) → d < 2 ^ 21 → word_of d / 2 ^ 11 ≡ d
unfolding word_of
word_of-data d h =
    combine_image (λ n. n / 2 ^ 11) (IsLinear-div 11) words d
    ∙ ap (λ ts. combine ts d) words_data ∙ combine_powers 21 0 d h ∙ omega arith

word_of-low : (d : ℕ) → word_of d % 2 ^ 11 ≡ check_of d
unfolding word_of check_of
word_of-low d = combine_image (λ n. n % 2 ^ 11) (IsLinear-mod 11) words d ∙ ap (λ ts. combine ts d) words_low

word_of-parts : (d : ℕ) → d < 2 ^ 21 → word_of d ≡ d * 2048 + check_of d
word_of-parts d h = omega (arith, word_of-data d h, word_of-low d)

-- a sum of codewords of even parity has even parity
even_sum : (ts : List ℕ) (n : ℕ) → are_below (2 ^ 32) ts ≡ true → map (combine (replicate 32 1)) ts ≡ replicate 21 0 →
    count_ones (combine ts n) % 2 ≡ 0
even_sum ts n small h =
    sym (combine_ones 32 (combine ts n) (combine-lt 32 ts n small))
    ∙ combine_image (combine (replicate 32 1)) (IsLinear-combine (replicate 32 1)) ts n
    ∙ ap (λ us. combine us n) h ∙ combine_none 21 n

IsCodeword-word_of : (d : ℕ) → IsCodeword (word_of d)
unfolding word_of
IsCodeword-word_of d = record {
  fits = combine-lt 32 words d refl;
  multiple = (
    combine quotients d,
    combine-lt 21 quotients d refl,
    combine_image (λ n. n / 2 ^ 1) (IsLinear-div 1) words d ∙ ap (λ ts. combine ts d) words_half
        ∙ sym (combine_image (combine (doublings 21 generator)) (IsLinear-combine (doublings 21 generator)) quotients d)
        ∙ sym (carryless_is 21 generator (combine quotients d)),
  );
  even = even_sum words d refl words_parity;
}

-- a number is known by its half and the parity of its ones
same_from_half : (v w : ℕ) → v / 2 ≡ w / 2 → count_ones v % 2 ≡ 0 → count_ones w % 2 ≡ 0 → v ≡ w
same_from_half v w h p q =
    omega (arith, ones_step v, ones_step w, ap count_ones h)

-- the number that the quotient makes
word_from_quotient : (w : ℕ) (is : IsCodeword w) → w ≡ combine multiples (is.multiple.0)
unfolding doublings
word_from_quotient w is =
    let q = is.multiple.0 in
    same_from_half w (combine multiples q)
    (is.multiple.2 ∙ carryless_is 21 generator q ∙ ap (λ ts. combine ts q) (sym multiples_half)
    ∙ sym (combine_image (λ n. n / 2 ^ 1) (IsLinear-div 1) multiples q))
    is.even
    (even_sum multiples q refl multiples_parity)

-- the low bits of a codeword are the check bits of its data
pub IsCodeword-low : (w : ℕ) → IsCodeword w → w % 2048 ≡ check_of (w / 2048)
unfolding check_of
IsCodeword-low w is =
    let q = is.multiple.0 in
    let e = word_from_quotient w is in
    ap (λ (n : ℕ). n % 2048) e
    ∙ combine_image (λ n. n % 2 ^ 11) (IsLinear-mod 11) multiples q
    ∙ ap (λ ts. combine ts q) multiples_low
    ∙ sym (combine_image (combine columns) (IsLinear-combine columns) (map (λ n. n / 2 ^ 11) multiples) q)
    ∙ ap (combine columns) (sym (combine_image (λ n. n / 2 ^ 11) (IsLinear-div 11) multiples q))
    ∙ ap (λ (n : ℕ). combine columns (n / 2048)) (sym e)

pub IsCodeword-from_low : (w : ℕ) → w < 2 ^ 32 → w % 2048 ≡ check_of (w / 2048) → IsCodeword w
IsCodeword-from_low w h e =
    let P : ℕ → Type 0 = λ n. IsCodeword n in
    subst P (word_of-parts (w / 2048) (omega arith) ∙ omega (arith, e)) (IsCodeword-word_of (w / 2048))

columns-small : are_below (2 ^ 11) columns ≡ true
unfolding columns
columns-small = refl

pub check_of-lt : (d : ℕ) → check_of d < 2048
unfolding check_of
check_of-lt d = combine-lt 11 columns d columns-small

-- the codeword with this data
IsCodeword-encoded : (d : ℕ) → d < 2 ^ 21 → IsCodeword (2048 * d + check_of d)
IsCodeword-encoded d h =
    let P : ℕ → Type 0 = λ n. IsCodeword n in
    subst P (word_of-parts d h ∙ omega arith) (IsCodeword-word_of d)

-- a codeword is known by its data
pub same_from_data : (v w : ℕ) → IsCodeword v → IsCodeword w → v / 2048 ≡ w / 2048 → v ≡ w
same_from_data v w p q e =
    omega (arith, IsCodeword-low v p, IsCodeword-low w q, e, ap check_of e)

pub IsCodeword-encode : (d r : ℕ) → d < 2 ^ 21 → r ≡ check_of d → IsCodeword (2048 * d + r)
IsCodeword-encode d r h e =
    let P : ℕ → Type 0 = λ x. IsCodeword (2048 * d + x) in
    subst P (sym e) (IsCodeword-encoded d h)
