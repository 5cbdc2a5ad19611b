-- No word is the synchronisation codeword in both polarities.
use Rattle.pocsag_capture.proofs.Prelude.{◌≡◌, ℕ, zero, suc, lit<, ◌+◌, ◌-◌, ◌/◌, ◌%◌, ◌^◌, ◌<◌, ◌≤◌, Some, bit_xor, count_ones, ap, refl, arith, pow-suc, ones_le_self, IsLinear-div, IsLinear-mod, IsNear, sync_word, as_sent, Polarity, Upright, Inverted}
use Rattle.std.specs.Int.Count.{ones_step}

-- the lowest bit of two numbers, and of one and the other's complement
lowest : (x y z : ℕ) → x < 2 → y < 2 → z ≡ 1 - y → bit_xor x y + bit_xor x z ≡ 1
lowest zero zero zero p q e = absurd (omega arith)
lowest zero zero (suc zero) p q e = refl
lowest zero zero (suc (suc z)) p q e = absurd (omega arith)
lowest zero (suc zero) zero p q e = refl
lowest zero (suc zero) (suc z) p q e = absurd (omega arith)
lowest zero (suc (suc y)) z p q e = absurd (omega arith)
lowest (suc zero) zero zero p q e = absurd (omega arith)
lowest (suc zero) zero (suc zero) p q e = refl
lowest (suc zero) zero (suc (suc z)) p q e = absurd (omega arith)
lowest (suc zero) (suc zero) zero p q e = refl
lowest (suc zero) (suc zero) (suc z) p q e = absurd (omega arith)
lowest (suc zero) (suc (suc y)) z p q e = absurd (omega arith)
lowest (suc (suc x)) y z p q e = absurd (omega arith)

-- a number of k bits differs from another and from its complement in k bits together
complement_ones : (k s w v : ℕ) → s < 2 ^ k → v + w + 1 ≡ 2 ^ k → count_ones (bit_xor s w) + count_ones (bit_xor s v) ≡ k
complement_ones zero s w v small both =
    let a : s ≡ 0 = omega arith in
    let b : w ≡ 0 = omega arith in
    let c : v ≡ 0 = omega arith in
    rw (a, b, c) (omega (arith, ones_le_self 0))
complement_ones (suc k) s w v small both =
    let power = pow-suc 2 k in
    let rest = complement_ones k (s / 2) (w / 2) (v / 2) (omega arith) (omega arith) in
    let here = lowest (s % 2) (w % 2) (v % 2) (omega arith) (omega arith) (omega arith) in
    let l = IsLinear-mod 1 in
    let h = IsLinear-div 1 in
    let a : bit_xor s w % 2 ≡ bit_xor (s % 2) (w % 2) = l.at_xor s w in
    let b : bit_xor s v % 2 ≡ bit_xor (s % 2) (v % 2) = l.at_xor s v in
    let c : count_ones (bit_xor s w / 2) ≡ count_ones (bit_xor (s / 2) (w / 2)) = ap count_ones (h.at_xor s w) in
    let d : count_ones (bit_xor s v / 2) ≡ count_ones (bit_xor (s / 2) (v / 2)) = ap count_ones (h.at_xor s v) in
    omega (arith, ones_step (bit_xor s w), ones_step (bit_xor s v))

-- a word and its complement differ from the synchronisation codeword in 32 bits together
pub both_polarities : (w : ℕ) → w < 2 ^ 32
    → count_ones (bit_xor sync_word (as_sent Upright w)) + count_ones (bit_xor sync_word (as_sent Inverted w)) ≡ 32
both_polarities w small = complement_ones 32 sync_word w (0xffffffff - w) (lit< tt) (omega arith)

pub one_polarity : (w : ℕ) → w < 2 ^ 32 → IsNear sync_word (as_sent Upright w) → IsNear sync_word (as_sent Inverted w) → ⊥
one_polarity w small near other = let all = both_polarities w small in absurd (omega arith)

-- the answer is the polarity in which the word is near
pub is_upright : (w : ℕ) → w < 2 ^ 32 → IsNear sync_word w → (polarity : Polarity) → IsNear sync_word (as_sent polarity w) → Some Upright ≡ Some polarity
is_upright w small near Upright also = refl
is_upright w small near Inverted also = absurd (one_polarity w small near also)

pub is_inverted : (w : ℕ) → w < 2 ^ 32 → IsNear sync_word (as_sent Inverted w) → (polarity : Polarity) → IsNear sync_word (as_sent polarity w)
    → Some Inverted ≡ Some polarity
is_inverted w small near Upright also = absurd (one_polarity w small also near)
is_inverted w small near Inverted also = refl

pub is_neither : (w : ℕ) → w < 2 ^ 32 → 2 < count_ones (bit_xor sync_word w) → count_ones (bit_xor sync_word w) < 30 → (polarity : Polarity)
    → ¬ IsNear sync_word (as_sent polarity w)
is_neither w small more less Upright near = absurd (omega arith)
is_neither w small more less Inverted near = let all = both_polarities w small in absurd (omega arith)

-- no word differs from the synchronisation codeword in more than its 32 bits
pub few_wrong : (w : ℕ) → w < 2 ^ 32 → count_ones (bit_xor sync_word w) ≤ 32
few_wrong w small = let all = both_polarities w small in omega arith
