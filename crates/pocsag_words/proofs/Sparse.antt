-- Numbers of few ones.
use Rattle.pocsag_words.proofs.Prelude.{◌≡◌, ℕ, zero, suc, ◌+◌, ◌*◌, ◌/◌, ◌^◌, ◌<◌, ◌≤◌, Bool, true, ◌&&◌, bit_xor, count_ones, ap, refl, ◌∙◌, inl, inr, arith, lit<, ones_step, pow-suc, and_parts, xor_block, ones_le_self, ones_cat}
use Rattle.pocsag_words.proofs.Linear.{bit_cases}

-- the test passes at each number of k bits with at most n ones
abbrev pub all_sparse : (k n : ℕ) → (ℕ → Bool) → Bool
all_sparse zero n P = P 0
all_sparse (suc k) zero P = all_sparse k zero (λ m. P (2 * m))
all_sparse (suc k) (suc n) P = all_sparse k (suc n) (λ m. P (2 * m)) && all_sparse k n (λ m. P (2 * m + 1))

pub sparse : (k n : ℕ) (P : ℕ → Bool) → all_sparse k n P ≡ true → (m : ℕ) → m < 2 ^ k → count_ones m ≤ n → P m ≡ true
sparse zero n P all m small few = let e : m ≡ 0 = omega arith in ap P e ∙ all
sparse (suc k) zero P all m small few =
    let half : m / 2 < 2 ^ k = omega (arith, pow-suc 2 k) in
    let e : m ≡ 2 * (m / 2) = omega (arith, ones_step m) in
    ap P e ∙ sparse k zero (λ x. P (2 * x)) all (m / 2) half (omega (arith, ones_step m))
sparse (suc k) (suc n) P all m small few =
    let parts = and_parts (all_sparse k (suc n) (λ x. P (2 * x))) (all_sparse k n (λ x. P (2 * x + 1))) all in
    let half : m / 2 < 2 ^ k = omega (arith, pow-suc 2 k) in
    elim (bit_cases m) [
      | inl even ↦
          let e : m ≡ 2 * (m / 2) = omega arith in
          ap P e ∙ sparse k (suc n) (λ x. P (2 * x)) parts.0 (m / 2) half (omega (arith, ones_step m))
      | inr odd ↦
          let e : m ≡ 2 * (m / 2) + 1 = omega arith in
          ap P e ∙ sparse k n (λ x. P (2 * x + 1)) parts.1 (m / 2) half (omega (arith, ones_step m))
    ]

-- two numbers of at most a and b ones whose sum without carry is m
pub record IsSplit (k a b m : ℕ) : Type 0 where
  pub left : ℕ
  pub right : ℕ
  pub left_fits : left < 2 ^ k
  pub right_fits : right < 2 ^ k
  pub left_few : count_ones left ≤ a
  pub right_few : count_ones right ≤ b
  pub sum : m ≡ bit_xor left right

-- a last bit for each of them, of which there may be as many ones more
split_more : (k a b c d x y last m : ℕ) → x < 2 ^ 1 → y < 2 ^ 1 → bit_xor x y ≡ last → a + count_ones x ≤ c → b + count_ones y ≤ d →
    m ≡ 2 * (m / 2) + last → IsSplit k a b (m / 2) → IsSplit (suc k) c d m
split_more k a b c d x y last m h i xor first second e s = record {
  left = s.left * 2 ^ 1 + x;
  right = s.right * 2 ^ 1 + y;
  left_fits = omega (arith, s.left_fits, pow-suc 2 k);
  right_fits = omega (arith, s.right_fits, pow-suc 2 k);
  left_few = omega (arith, s.left_few, ones_cat 1 s.left x h);
  right_few = omega (arith, s.right_few, ones_cat 1 s.right y i);
  sum = omega (arith, xor_block 1 s.left s.right x y h i, s.sum);
}

split_even : (k a b m : ℕ) → m ≡ 2 * (m / 2) → IsSplit k a b (m / 2) → IsSplit (suc k) a b m
split_even k a b m e =
    split_more k a b a b 0 0 0 m (lit< tt) (lit< tt) refl (omega (arith, ones_le_self 0)) (omega (arith, ones_le_self 0)) (omega arith)

split_left : (k a b m : ℕ) → m ≡ 2 * (m / 2) + 1 → IsSplit k a b (m / 2) → IsSplit (suc k) (suc a) b m
split_left k a b m e =
    split_more k a b (suc a) b 1 0 1 m (lit< tt) (lit< tt) refl (omega (arith, ones_le_self 1)) (omega (arith, ones_le_self 0)) e

split_right : (k a b m : ℕ) → m ≡ 2 * (m / 2) + 1 → IsSplit k a b (m / 2) → IsSplit (suc k) a (suc b) m
split_right k a b m e =
    split_more k a b a (suc b) 0 1 1 m (lit< tt) (lit< tt) refl (omega (arith, ones_le_self 0)) (omega (arith, ones_le_self 1)) e

-- a number of at most a + b ones is such a sum
pub split : (k a b m : ℕ) → m < 2 ^ k → count_ones m ≤ a + b → IsSplit k a b m
split zero a b m small few = record {
  left = 0;
  right = 0;
  left_fits = lit< tt;
  right_fits = lit< tt;
  left_few = omega (arith, ones_le_self 0);
  right_few = omega (arith, ones_le_self 0);
  sum = omega arith;
}
split (suc k) zero zero m small few =
    let e : m ≡ 2 * (m / 2) = omega (arith, ones_step m) in
    split_even k zero zero m e (split k zero zero (m / 2) (omega (arith, pow-suc 2 k)) (omega (arith, ones_step m)))
split (suc k) zero (suc b) m small few =
    let half : m / 2 < 2 ^ k = omega (arith, pow-suc 2 k) in
    elim (bit_cases m) [
      | inl even ↦ split_even k zero (suc b) m (omega arith) (split k zero (suc b) (m / 2) half (omega (arith, ones_step m)))
      | inr odd ↦ split_right k zero b m (omega arith) (split k zero b (m / 2) half (omega (arith, ones_step m)))
    ]
split (suc k) (suc a) b m small few =
    let half : m / 2 < 2 ^ k = omega (arith, pow-suc 2 k) in
    elim (bit_cases m) [
      | inl even ↦ split_even k (suc a) b m (omega arith) (split k (suc a) b (m / 2) half (omega (arith, ones_step m)))
      | inr odd ↦ split_left k a b m (omega arith) (split k a b (m / 2) half (omega (arith, ones_step m)))
    ]
