-- No synchronisation codeword begins in a preamble.
use Rattle.pocsag_laws.proofs.Prelude.{◌≡◌, ℕ, zero, suc, lit<, ◌+◌, ◌-◌, ◌*◌, ◌/◌, ◌%◌, ◌^◌, ◌<◌, ◌≤◌, Bool, true, leb, ltb, ◌&&◌, List, [], ◌++◌, length, take, drop, bit_xor, count_ones, refl, sym, ap, subst, ◌∙◌, inr, arith, pow-suc, drop-append-add, and_parts, leb-true, ltb-true, drop-append-le, drop-drop, length-drop, take-append-le, HasNoneNear, check_of, columns, combine, syndrome_of, HasNoneNear-from_far, high_first, high_number, sync_word, as_sent, word_on, HasInFront, IsQuiet, sent_at, Polarity, Upright, Inverted, word_there}
use Rattle.std.specs.Int.Count.{ones_step}
use Rattle.std.proofs.lemmas.List.{length-append}
use Rattle.std.proofs.lemmas.Nat.{ones_le_self, xor_lt}
use Rattle.pocsag_capture.proofs.Polarities.{both_polarities}
use Rattle.pocsag_laws.specs.Preambles.{clean_start}

-- how many of the lowest bits are ones, by a count that computes
unfoldable low_ones : ℕ → ℕ → ℕ
low_ones zero n = 0
low_ones (suc k) n = n % 2 + low_ones k (n / 2)

low_ones_are : (k n : ℕ) → n < 2 ^ k → low_ones k n ≡ count_ones n
unfolding low_ones
low_ones_are zero n h = omega (arith, ones_le_self n)
low_ones_are (suc k) n h = ap (λ (x : ℕ). n % 2 + x) (low_ones_are k (n / 2) (omega (arith, pow-suc 2 k))) ∙ sym (ones_step n)

-- a word that is not near in either polarity
unfoldable is_far : ℕ → Bool
is_far w = ltb w (2 ^ 32) && (leb 3 (low_ones 32 (bit_xor sync_word w)) && leb (low_ones 32 (bit_xor sync_word w)) 29)

-- each of the words that begin at the first bits
unfoldable all_far : ℕ → List ℕ → Bool
all_far zero bits = true
all_far (suc n) bits = is_far (high_number 0 (take 32 bits)) && all_far n (drop 1 bits)

far_start : (p : Polarity) → all_far 544 (drop 32 (clean_start p)) ≡ true
unfolding all_far is_far low_ones high_first high_number
far_start Upright = refl
far_start Inverted = refl

start_long : (p : Polarity) → length (clean_start p) ≡ 608
unfolding high_first
start_long Upright = refl
start_long Inverted = refl

far_at : (n i : ℕ) (bits : List ℕ) → all_far n bits ≡ true → i < n → is_far (high_number 0 (take 32 (drop i bits))) ≡ true
unfolding all_far
far_at zero i bits all below = absurd (omega arith)
far_at (suc n) zero bits all below = (and_parts (is_far (high_number 0 (take 32 bits))) (all_far n (drop 1 bits)) all).0
far_at (suc n) (suc i) bits all below =
    let rest = far_at n i (drop 1 bits) (and_parts (is_far (high_number 0 (take 32 bits))) (all_far n (drop 1 bits)) all).1 (omega arith) in
    let next : 1 + i ≡ suc i = omega arith in
    subst (λ (l : List ℕ). is_far (high_number 0 (take 32 l)) ≡ true) (drop-drop i 1 bits ∙ ap (λ (k : ℕ). drop k bits) next) rest

ones_between : (w : ℕ) → is_far w ≡ true → (w < 2 ^ 32) × (3 ≤ count_ones (bit_xor sync_word w)) × (count_ones (bit_xor sync_word w) ≤ 29)
unfolding is_far
ones_between w far =
    let parts = and_parts (ltb w (2 ^ 32)) (leb 3 (low_ones 32 (bit_xor sync_word w)) && leb (low_ones 32 (bit_xor sync_word w)) 29) far in
    let bounds = and_parts (leb 3 (low_ones 32 (bit_xor sync_word w))) (leb (low_ones 32 (bit_xor sync_word w)) 29) parts.1 in
    let small = ltb-true w (2 ^ 32) parts.0 in
    let count = low_ones_are 32 (bit_xor sync_word w) (xor_lt 32 sync_word w (omega arith) small) in
    (small, omega (arith, count, leb-true _ _ bounds.0), omega (arith, count, leb-true _ _ bounds.1))

not_near : (w : ℕ) (p : Polarity) → is_far w ≡ true → ¬ (count_ones (bit_xor sync_word (as_sent p w)) ≤ 2)
not_near w Upright far near = omega (arith, near, (ones_between w far).1)
not_near w Inverted far near = let ones = ones_between w far in omega (arith, near, both_polarities w ones.0, ones.2)

pub preamble_quiet : (before rest : List ℕ) (p : Polarity)
    → IsQuiet (before ++ (clean_start p ++ rest)) (length before + 32) (length before + 576)
preamble_quiet before rest p = λ bit low high polarity there.
    let i : ℕ = bit - (length before + 32) in
    let same : bit ≡ length before + (32 + i) = omega arith in
    let long = start_long p in
    let tail = length-drop (32 + i) (clean_start p) in
    let word : word_on (before ++ (clean_start p ++ rest)) bit ≡ high_number 0 (take 32 (drop (32 + i) (clean_start p))) =
    ap (word_on (before ++ (clean_start p ++ rest))) same
    ∙ ap (λ (l : List ℕ). high_number 0 (take 32 l)) (drop-append-add before (clean_start p ++ rest) (32 + i))
    ∙ ap (λ (l : List ℕ). high_number 0 (take 32 l)) (drop-append-le (32 + i) (clean_start p) rest (omega arith))
    ∙ ap (high_number 0) (take-append-le 32 (drop (32 + i) (clean_start p)) rest (omega arith)) in
    let far = far_at 544 i (drop 32 (clean_start p)) (far_start p) (omega arith) in
    let here : is_far (high_number 0 (take 32 (drop (32 + i) (clean_start p)))) ≡ true =
    subst (λ (l : List ℕ). is_far (high_number 0 (take 32 l)) ≡ true) (drop-drop i 32 (clean_start p)) far in
    not_near (high_number 0 (take 32 (drop (32 + i) (clean_start p)))) polarity here
    (subst (λ (w : ℕ). count_ones (bit_xor sync_word (as_sent polarity w)) ≤ 2) word there.near)

-- ---- no words in front are read

preamble_far : HasNoneNear 0xaaaaaaaa
unfolding syndrome_of check_of combine columns
preamble_far = HasNoneNear-from_far 0xaaaaaaaa (lit< tt) refl

last_of_start : (p : Polarity) → as_sent p (high_number 0 (take 32 (drop 544 (clean_start p)))) ≡ 0xaaaaaaaa
unfolding high_first high_number
last_of_start Upright = refl
last_of_start Inverted = refl

pub preamble_in_front : (before rest : List ℕ) (p : Polarity) (held : ℕ) → held ≤ length before + 576
    → HasInFront (before ++ (clean_start p ++ rest)) held p (length before + 576) 0
preamble_in_front before rest p held behind =
    let bits : List ℕ = before ++ (clean_start p ++ rest) in
    let long = start_long p in
    let tail = length-drop 544 (clean_start p) in
    let place : length before + 576 - 32 * (0 + 1) ≡ length before + 544 = omega arith in
    let all : length bits ≡ length before + (length (clean_start p) + length rest) =
    length-append before (clean_start p ++ rest) ∙ ap (λ (n : ℕ). length before + n) (length-append (clean_start p) rest) in
    let word : sent_at bits p (length before + 544) ≡ 0xaaaaaaaa =
    word_there bits p (length before + 544) (omega (arith, all, long))
    ∙ ap (λ (l : List ℕ). as_sent p (high_number 0 (take 32 l))) (drop-append-add before (clean_start p ++ rest) 544)
    ∙ ap (λ (l : List ℕ). as_sent p (high_number 0 (take 32 l))) (drop-append-le 544 (clean_start p) rest (omega arith))
    ∙ ap (λ (l : List ℕ). as_sent p (high_number 0 l)) (take-append-le 32 (drop 544 (clean_start p)) rest (omega arith))
    ∙ last_of_start p in
    record {
      count = 0;
      errors = 0;
      are = record {
        most = omega arith;
        room = λ some. absurd (omega (arith, some));
        mended = [];
        each = tt;
        kept = refl;
        wrong = refl;
        ends = inr (inr (subst HasNoneNear (sym (ap (sent_at bits p) place ∙ word)) preamble_far));
      };
      slipped = λ slips. refl;
      reads = λ steady. refl;
    }
