-- The words of a window of 40 bits.
use Rattle.pocsag_capture.proofs.Prelude.{◌≡◌, ℕ, suc, ◌+◌, ◌-◌, ◌*◌, ◌/◌, ◌%◌, ◌^◌, ◌<◌, ◌≤◌, List, [], ◌∷◌, ◌++◌, length, take, drop, get_or, refl, sym, ap, ◌∙◌, arith, append_assoc, drop-cons, flat_map-append, drop-drop, drop_at, length-take-le, take-append-drop, take_at, high_first, high_number, high_first-join, high_first-split, high_number-high_first, length-high_first, length-flat_map-wide, capture_bits, word_on}

-- the number of 32 bits that stand first
first_number : (z : ℕ) (rest : List ℕ) → z < 2 ^ 32 → high_number 0 (take 32 (high_first 32 z ++ rest)) ≡ z
first_number z rest small =
    let front = take_at (high_first 32 z) rest 32 (length-high_first 32 z) in
    ap (high_number 0) front ∙ high_number-high_first 0 32 z ∙ omega arith

-- of 32 bits behind others and before others
pub number_behind : (before : List ℕ) (n z : ℕ) (rest : List ℕ) → length before ≡ n → z < 2 ^ 32 →
    word_on (before ++ (high_first 32 z ++ rest)) n ≡ z
number_behind before n z rest long small =
    ap (λ (l : List ℕ). high_number 0 (take 32 l)) (drop_at before (high_first 32 z ++ rest) n long) ∙ first_number z rest small

-- a window in three: the bits before the word, the word, and those behind it
three : (w s t : ℕ) → s + t ≡ 8 → high_first 40 w
    ≡ high_first s (w / 2 ^ t / 2 ^ 32) ++ (high_first 32 (w / 2 ^ t % 2 ^ 32) ++ high_first t (w % 2 ^ t))
three w s t e =
    let a : s + 32 + t ≡ 40 = omega arith in
    let whole : high_first (s + 32 + t) w ≡ high_first (s + 32) (w / 2 ^ t) ++ high_first t (w % 2 ^ t) = high_first-split (s + 32) t w in
    let front : high_first (s + 32) (w / 2 ^ t) ≡ high_first s (w / 2 ^ t / 2 ^ 32) ++ high_first 32 (w / 2 ^ t % 2 ^ 32) =
    high_first-split s 32 (w / 2 ^ t) in
    ap (λ (n : ℕ). high_first n w) (sym a) ∙ whole ∙ ap (λ (l : List ℕ). l ++ high_first t (w % 2 ^ t)) front
    ∙ append_assoc (high_first s (w / 2 ^ t / 2 ^ 32)) (high_first 32 (w / 2 ^ t % 2 ^ 32)) (high_first t (w % 2 ^ t))

window_word : (w s t : ℕ) (rest : List ℕ) → s + t ≡ 8 → word_on (high_first 40 w ++ rest) s ≡ w / 2 ^ t % 2 ^ 32
window_word w s t rest e =
    let parts : high_first 40 w ++ rest
    ≡ high_first s (w / 2 ^ t / 2 ^ 32) ++ (high_first 32 (w / 2 ^ t % 2 ^ 32) ++ (high_first t (w % 2 ^ t) ++ rest)) =
    ap (λ (l : List ℕ). l ++ rest) (three w s t e)
    ∙ append_assoc (high_first s (w / 2 ^ t / 2 ^ 32)) (high_first 32 (w / 2 ^ t % 2 ^ 32) ++ high_first t (w % 2 ^ t)) rest
    ∙ ap (λ (l : List ℕ). high_first s (w / 2 ^ t / 2 ^ 32) ++ l) (append_assoc (high_first 32 (w / 2 ^ t % 2 ^ 32)) (high_first t (w % 2 ^ t)) rest) in
    ap (λ (l : List ℕ). word_on l s) parts
    ∙ number_behind (high_first s (w / 2 ^ t / 2 ^ 32)) s (w / 2 ^ t % 2 ^ 32) (high_first t (w % 2 ^ t) ++ rest)
    (length-high_first s (w / 2 ^ t / 2 ^ 32)) (omega arith)

-- bytes joined
join_two : (n a b : ℕ) (rest : List ℕ) → b < 256 → high_first n a ++ (high_first 8 b ++ rest) ≡ high_first (n + 8) (a * 256 + b) ++ rest
join_two n a b rest small =
    sym (append_assoc (high_first n a) (high_first 8 b) rest) ∙ ap (λ (l : List ℕ). l ++ rest) (sym (high_first-join n 8 a b small))

four_bits : (a b c d : ℕ) (rest : List ℕ) → b < 256 → c < 256 → d < 256 →
    capture_bits (a ∷ b ∷ c ∷ d ∷ rest) ≡ high_first 32 (((a * 256 + b) * 256 + c) * 256 + d) ++ capture_bits rest
four_bits a b c d rest sb sc sd =
    join_two 8 a b (high_first 8 c ++ (high_first 8 d ++ capture_bits rest)) sb
    ∙ join_two 16 (a * 256 + b) c (high_first 8 d ++ capture_bits rest) sc
    ∙ join_two 24 ((a * 256 + b) * 256 + c) d (capture_bits rest) sd

five_bits : (a b c d e : ℕ) (rest : List ℕ) → b < 256 → c < 256 → d < 256 → e < 256 →
    capture_bits (a ∷ b ∷ c ∷ d ∷ e ∷ rest) ≡ high_first 40 ((((a * 256 + b) * 256 + c) * 256 + d) * 256 + e) ++ capture_bits rest
five_bits a b c d e rest sb sc sd se =
    four_bits a b c d (e ∷ rest) sb sc sd ∙ join_two 32 (((a * 256 + b) * 256 + c) * 256 + d) e (capture_bits rest) se

-- bits from a byte on are those of the bytes from there on
pub bits_long : (xs : List ℕ) → length (capture_bits xs) ≡ 8 * length xs
bits_long xs = length-flat_map-wide 8 (high_first 8) xs (λ x. length-high_first 8 x)

bits_on : (bytes : List ℕ) (at : ℕ) → at ≤ length bytes → drop (8 * at) (capture_bits bytes) ≡ capture_bits (drop at bytes)
bits_on bytes at within =
    let long : length (capture_bits (take at bytes)) ≡ 8 * at = bits_long (take at bytes) ∙ ap (λ (n : ℕ). 8 * n) (length-take-le at bytes within) in
    ap (λ (l : List ℕ). drop (8 * at) (capture_bits l)) (sym (take-append-drop at bytes))
    ∙ ap (drop (8 * at)) (flat_map-append (high_first 8) (take at bytes) (drop at bytes))
    ∙ drop_at (capture_bits (take at bytes)) (capture_bits (drop at bytes)) (8 * at) long

word_from : (bytes : List ℕ) (at bit : ℕ) → at ≤ length bytes → word_on (capture_bits bytes) (8 * at + bit) ≡ word_on (capture_bits (drop at bytes)) bit
word_from bytes at bit within =
    ap (λ (l : List ℕ). high_number 0 (take 32 l))
    (sym (drop-drop bit (8 * at) (capture_bits bytes)) ∙ ap (drop bit) (bits_on bytes at within))

four_from : (bytes : List ℕ) (at : ℕ) → at + 4 ≤ length bytes → drop at bytes
    ≡ get_or bytes at 0 ∷ get_or bytes (at + 1) 0 ∷ get_or bytes (at + 2) 0 ∷ get_or bytes (at + 3) 0 ∷ drop (at + 4) bytes
four_from bytes at within =
    let a = drop-cons bytes at 0 (omega arith) in
    let b = drop-cons bytes (at + 1) 0 (omega arith) in
    let c = drop-cons bytes (at + 2) 0 (omega arith) in
    let d = drop-cons bytes (at + 3) 0 (omega arith) in
    let n₁ : suc at ≡ at + 1 = omega arith in
    let n₂ : suc (at + 1) ≡ at + 2 = omega arith in
    let n₃ : suc (at + 2) ≡ at + 3 = omega arith in
    let n₄ : suc (at + 3) ≡ at + 4 = omega arith in
    let B = get_or bytes (at + 1) 0 in
    let C = get_or bytes (at + 2) 0 in
    let D = get_or bytes (at + 3) 0 in
    a ∙ ap (λ (l : List ℕ). get_or bytes at 0 ∷ l) (ap (λ (n : ℕ). drop n bytes) n₁ ∙ b
    ∙ ap (λ (l : List ℕ). B ∷ l) (ap (λ (n : ℕ). drop n bytes) n₂ ∙ c
    ∙ ap (λ (l : List ℕ). C ∷ l) (ap (λ (n : ℕ). drop n bytes) n₃ ∙ d
    ∙ ap (λ (l : List ℕ). D ∷ l) (ap (λ (n : ℕ). drop n bytes) n₄))))

-- the words of a window with a fifth byte
pub words_of_five : (bytes : List ℕ) (at bit w : ℕ) → at + 5 ≤ length bytes → ((i : ℕ) → get_or bytes i 0 < 256) → bit < 8 →
    w ≡ ((((get_or bytes at 0 * 256 + get_or bytes (at + 1) 0) * 256 + get_or bytes (at + 2) 0) * 256 + get_or bytes (at + 3) 0) * 256
    + get_or bytes (at + 4) 0) →
    word_on (capture_bits bytes) (8 * at + bit) ≡ w / 2 ^ (8 - bit) % 2 ^ 32
words_of_five bytes at bit w within small below is =
    let n : suc (at + 4) ≡ at + 5 = omega arith in
    let fifth = drop-cons bytes (at + 4) 0 (omega arith) in
    let A = get_or bytes at 0 in
    let B = get_or bytes (at + 1) 0 in
    let C = get_or bytes (at + 2) 0 in
    let D = get_or bytes (at + 3) 0 in
    let E = get_or bytes (at + 4) 0 in
    let five : drop at bytes ≡ A ∷ B ∷ C ∷ D ∷ E ∷ drop (suc (at + 4)) bytes =
    four_from bytes at (omega arith) ∙ ap (λ (l : List ℕ). A ∷ B ∷ C ∷ D ∷ l) fifth in
    word_from bytes at bit (omega arith)
    ∙ ap (λ (l : List ℕ). word_on (capture_bits l) bit) five
    ∙ ap (λ (l : List ℕ). word_on l bit)
    (five_bits A B C D E (drop (suc (at + 4)) bytes) (small (at + 1)) (small (at + 2)) (small (at + 3)) (small (at + 4)))
    ∙ ap (λ (v : ℕ). word_on (high_first 40 v ++ capture_bits (drop (suc (at + 4)) bytes)) bit) (sym is)
    ∙ window_word w bit (8 - bit) (capture_bits (drop (suc (at + 4)) bytes)) (omega arith)

-- the word of a window without one
pub word_of_four : (bytes : List ℕ) (at bit w : ℕ) → at + 4 ≡ length bytes → ((i : ℕ) → get_or bytes i 0 < 256) → bit ≡ 0 →
    w ≡ (((get_or bytes at 0 * 256 + get_or bytes (at + 1) 0) * 256 + get_or bytes (at + 2) 0) * 256 + get_or bytes (at + 3) 0) * 256 →
    word_on (capture_bits bytes) (8 * at + bit) ≡ w / 2 ^ (8 - bit) % 2 ^ 32
word_of_four bytes at bit w within small none is =
    let A = get_or bytes at 0 in
    let B = get_or bytes (at + 1) 0 in
    let C = get_or bytes (at + 2) 0 in
    let D = get_or bytes (at + 3) 0 in
    let z = ((A * 256 + B) * 256 + C) * 256 + D in
    let sa = small at in
    let sb = small (at + 1) in
    let sc = small (at + 2) in
    let sd = small (at + 3) in
    let fits : z < 2 ^ 32 = omega arith in
    let value : z ≡ w / 2 ^ 8 % 2 ^ 32 = omega arith in
    rw none (word_from bytes at 0 (omega arith)
    ∙ ap (λ (l : List ℕ). word_on (capture_bits l) 0) (four_from bytes at (omega arith))
    ∙ ap (λ (l : List ℕ). word_on l 0) (four_bits A B C D (drop (at + 4) bytes) sb sc sd)
    ∙ number_behind [] 0 z (capture_bits (drop (at + 4) bytes)) refl fits ∙ value)
