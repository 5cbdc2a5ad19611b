-- Lists of bits and the numbers that they make.
use Rattle.pocsag_text.proofs.Prelude.{◌≡◌, ℕ, zero, suc, ◌+◌, ◌*◌, ◌/◌, ◌%◌, ◌^◌, ◌<◌, List, [], ◌∷◌, ◌++◌, length, All, refl, sym, ap, ◌∙◌, arith, zero-add, add-one, pow-suc, mod-eq_of_lt, shr-shr, mod-pow-add, field_of, shr_high, mod_low, append-nil, append_assoc, All-nil, All-cons, All-head, All-tail, low_first, high_first, low_number, high_number}

-- each is 0 or 1
abbrev pub AreBits : List ℕ → Type 0
AreBits bits = All (λ b. b < 2) bits

pub length-low_first : (n v : ℕ) → length (low_first n v) ≡ n
unfolding low_first
length-low_first zero v = refl
length-low_first (suc n) v = ap suc (length-low_first n (v / 2))

pub length-high_first : (n v : ℕ) → length (high_first n v) ≡ n
unfolding high_first
length-high_first zero v = refl
length-high_first (suc n) v = ap suc (length-high_first n v)

pub AreBits-low_first : (n v : ℕ) → AreBits (low_first n v)
unfolding low_first
AreBits-low_first zero v = All-nil (λ b. b < 2)
AreBits-low_first (suc n) v =
    All-cons (λ b. b < 2) _ _ (omega arith) (AreBits-low_first n (v / 2))

pub AreBits-high_first : (n v : ℕ) → AreBits (high_first n v)
unfolding high_first
AreBits-high_first zero v = All-nil (λ b. b < 2)
AreBits-high_first (suc n) v =
    All-cons (λ b. b < 2) _ _ (omega arith) (AreBits-high_first n v)

-- the bits of a number in two parts
high_first-add : (a b v : ℕ) → high_first (a + b) v ≡ high_first a (v / 2 ^ b) ++ high_first b v
unfolding high_first
high_first-add zero b v = rw zero-add refl
high_first-add (suc a) b v =
    let e : suc a + b ≡ suc (a + b) = omega arith in
    let k : b + a ≡ a + b = omega arith in
    let s : v / 2 ^ b / 2 ^ a ≡ v / 2 ^ (a + b) = shr-shr v b a ∙ ap (λ k. v / 2 ^ k) k in
    rw (e, s) (ap (λ bits. (v / 2 ^ (a + b) % 2) ∷ bits) (high_first-add a b v))

-- the lowest bit of a remainder
mod-two : (m x : ℕ) → x % 2 ^ (m + 1) % 2 ≡ x % 2
mod-two m x = rw (mod-pow-add x m 1) (omega arith)

-- only the lowest bits count
high_first-mod : (n m v : ℕ) → high_first n (v % 2 ^ (n + m)) ≡ high_first n v
unfolding high_first
high_first-mod zero m v = refl
high_first-mod (suc n) m v =
    let k : suc n + m ≡ (m + 1) + n = omega arith in
    let j : (m + 1) + n ≡ n + (m + 1) = omega arith in
    let f : v % 2 ^ ((m + 1) + n) / 2 ^ n % 2 ≡ v / 2 ^ n % 2 = ap (λ x. x % 2) (field_of v (m + 1) n) ∙ mod-two m (v / 2 ^ n) in
    let t : high_first n (v % 2 ^ ((m + 1) + n)) ≡ high_first n v = rw j (high_first-mod n (m + 1) v) in
    rw (k, f, t) refl

-- the bits of a number, and then those of another that has no more
pub high_first-join : (a b v w : ℕ) → w < 2 ^ b → high_first (a + b) (v * 2 ^ b + w) ≡ high_first a v ++ high_first b w
high_first-join a b v w h =
    let hi : (v * 2 ^ b + w) / 2 ^ b ≡ v = shr_high v b w h in
    let lo : (v * 2 ^ b + w) % 2 ^ b ≡ w = mod_low v b w h in
    let z : b + 0 ≡ b = omega arith in
    let m : high_first b ((v * 2 ^ b + w) % 2 ^ b) ≡ high_first b (v * 2 ^ b + w) = rw z at (high_first-mod b 0 (v * 2 ^ b + w)) in
    high_first-add a b (v * 2 ^ b + w) ∙ ap (λ x. high_first a x ++ high_first b (v * 2 ^ b + w)) hi
    ∙ ap (λ bits. high_first a v ++ bits) (sym m ∙ ap (high_first b) lo)

-- the bits of a number and of its remainder
pub high_first-split : (a b v : ℕ) → high_first (a + b) v ≡ high_first a (v / 2 ^ b) ++ high_first b (v % 2 ^ b)
high_first-split a b v =
    let z : b + 0 ≡ b = omega arith in
    let m : high_first b (v % 2 ^ b) ≡ high_first b v = rw z at (high_first-mod b 0 v) in
    high_first-add a b v ∙ ap (λ bits. high_first a (v / 2 ^ b) ++ bits) (sym m)

-- one bit more
high_first-push : (n v b : ℕ) → b < 2 → high_first (suc n) (2 * v + b) ≡ high_first n v ++ b ∷ []
high_first-push n v b h =
    let e : v * 2 ^ 1 + b ≡ 2 * v + b = omega arith in
    let k : n + 1 ≡ suc n = omega arith in
    let one : high_first 1 b ≡ b ∷ [] = unfold high_first in ap (λ x. x ∷ []) (omega arith) in
    (rw (e, k) at (high_first-join n 1 v b h)) ∙ ap (λ bits. high_first n v ++ bits) one

-- the number that the lowest bits make
pub low_number-low_first : (n v : ℕ) → low_number (low_first n v) ≡ v % 2 ^ n
unfolding low_first low_number
low_number-low_first zero v = omega arith
low_number-low_first (suc n) v =
    let e : v % 2 ^ suc n ≡ (v / 2 % 2 ^ n) * 2 + v % 2 = rw (← add-one n) (mod-pow-add v n 1) in
    omega (arith, e, low_number-low_first n (v / 2))

pub code-back : (width x : ℕ) → x < 2 ^ width → low_number (low_first width x) ≡ x
code-back width x lt = low_number-low_first width x ∙ mod-eq_of_lt lt

-- the bits of the number that bits make
pub low_first-low_number : (bits : List ℕ) → AreBits bits → low_first (length bits) (low_number bits) ≡ bits
unfolding low_first low_number
low_first-low_number [] h = refl
low_first-low_number (b ∷ bits) h =
    let small = All-head (λ x. x < 2) b bits h in
    let m : (b + 2 * low_number bits) % 2 ≡ b = omega (arith, small) in
    let d : (b + 2 * low_number bits) / 2 ≡ low_number bits = omega (arith, small) in
    rw (m, d) (ap (λ rest. b ∷ rest) (low_first-low_number bits (All-tail (λ x. x < 2) b bits h)))

-- the number that the highest bits make behind others
pub high_number-high_first : (v n x : ℕ) → high_number v (high_first n x) ≡ v * 2 ^ n + x % 2 ^ n
unfolding high_first high_number
high_number-high_first v zero x = omega arith
high_number-high_first v (suc n) x =
    let k : 1 + n ≡ suc n = omega arith in
    let e : x % 2 ^ suc n ≡ (x / 2 ^ n % 2 ^ 1) * 2 ^ n + x % 2 ^ n = rw k at (mod-pow-add x 1 n) in
    rw (high_number-high_first (2 * v + x / 2 ^ n % 2) n x, e, pow-suc 2 n) (omega arith)

-- the bits of the number that bits make behind others
pub high_first-high_number : (bits : List ℕ) (n v : ℕ) → AreBits bits →
    high_first (length bits + n) (high_number v bits) ≡ high_first n v ++ bits
unfolding high_number
high_first-high_number [] n v h = rw zero-add (sym (append-nil (high_first n v)))
high_first-high_number (b ∷ bits) n v h =
    let small : b < 2 = All-head (λ x. x < 2) b bits h in
    let k : suc (length bits) + n ≡ length bits + suc n = omega arith in
    let r = high_first-high_number bits (suc n) (2 * v + b) (All-tail (λ x. x < 2) b bits h) in
    rw k (r ∙ ap (λ x. x ++ bits) (high_first-push n v b small) ∙ append_assoc (high_first n v) (b ∷ []) bits)

-- the number that bits make has no more bits
pub high_number-lt : (bits : List ℕ) (v n : ℕ) → AreBits bits → v < 2 ^ n → high_number v bits < 2 ^ (length bits + n)
unfolding high_number
high_number-lt [] v n h lt = rw zero-add lt
high_number-lt (b ∷ bits) v n h lt =
    let small : b < 2 = All-head (λ x. x < 2) b bits h in
    let k : suc (length bits) + n ≡ length bits + suc n = omega arith in
    let below : 2 * v + b < 2 ^ suc n = omega (arith, pow-suc 2 n) in
    rw k (high_number-lt bits (2 * v + b) (suc n) (All-tail (λ x. x < 2) b bits h) below)
