-- A text that was packed comes back.
use Rattle.pocsag_text.proofs.Prelude.{◌≡◌, ◌≢◌, ℕ, zero, suc, ◌+◌, ◌*◌, ◌/◌, ◌%◌, ◌^◌, ◌<◌, List, [], ◌∷◌, ◌++◌, length, map, replicate, take, drop, Ok, All, false, refl, sym, ap, ◌∙◌, arith, lit<, flat_map, append-nil, map-append, All-nil, All-cons, All-head, All-tail, All-append, All-map, All-replicate, All-take, All-drop, All-weaker, low_first, high_first, low_number, high_number, cut, item_bits, code_or_space, character_of, is_bad_digit, text_fault, short_of, twenties, is_bad_byte, numeric_bits, alpha_bits, numeric_payload, alpha_payload, codes_of, numeric_text, alpha_text, trim_end}
use Rattle.pocsag_text.proofs.BitLists.{AreBits, AreBits-low_first, length-low_first, high_first-high_number, code-back}
use Rattle.pocsag_text.proofs.Codes.{character_of-code_or_space, code_or_space-lt, space_is}
use Rattle.pocsag_text.proofs.Cuts.{cut-append, cut-flat_map, flat_map-cut, length-flat_map-wide}
use Rattle.pocsag_text.proofs.Payloads.{alpha_bytes, fault_none, good_byte, unless_ok, whole_numeric, whole_alpha, length-alpha_bits}
use Rattle.pocsag_text.proofs.Trims.{trim_end-append, trim_end-none}

AreBits-flat_map : (width : ℕ) (xs : List ℕ) → AreBits (flat_map (low_first width) xs)
AreBits-flat_map width [] = All-nil (λ b. b < 2)
AreBits-flat_map width (x ∷ xs) =
    All-append (λ b. b < 2) (low_first width x) (flat_map (low_first width) xs) (AreBits-low_first width x) (AreBits-flat_map width xs)

piece-back : (piece : List ℕ) → length piece ≡ 20 → AreBits piece → high_first 20 (high_number 0 piece) ≡ piece
piece-back piece l h =
    let n : length piece + 0 ≡ 20 = omega arith in
    let none : high_first 0 0 ++ piece ≡ piece = unfold high_first in refl in
    (rw n at (high_first-high_number piece 0 0 h)) ∙ none

-- the bits of the twenties of bits are these bits
item_bits-twenties : (bits : List ℕ) → AreBits bits → length bits % 20 ≡ 0 → item_bits (twenties bits) ≡ bits
item_bits-twenties bits h whole =
    flat_map-cut 20 (high_number 0) (high_first 20) (length bits / 20) bits piece-back h (omega arith)

-- the codes come back, and what stands behind them is cut too
cut-codes : (width : ℕ) (codes rest : List ℕ) (n : ℕ) → All (λ x. x < 2 ^ width) codes →
    cut width low_number (length codes + n) (flat_map (low_first width) codes ++ rest) ≡ codes ++ cut width low_number n rest
cut-codes width codes rest n h =
    let back : All (λ x. low_number (low_first width x) ≡ x) codes =
    All-weaker (λ x. x < 2 ^ width) (λ x. low_number (low_first width x) ≡ x) (code-back width) codes h in
    let one : cut width low_number (length codes) (flat_map (low_first width) codes) ≡ codes =
    ap (cut width low_number (length codes)) (sym (append-nil (flat_map (low_first width) codes)))
    ∙ cut-flat_map width low_number (low_first width) codes [] (length-low_first width) back in
    cut-append width low_number (length codes) n (flat_map (low_first width) codes) rest
    (length-flat_map-wide width (low_first width) codes (length-low_first width)) ∙ ap (λ xs. xs ++ cut width low_number n rest) one

low_number-zeros : (bits : List ℕ) → All (λ b. b ≡ 0) bits → low_number bits ≡ 0
unfolding low_number
low_number-zeros [] h = refl
low_number-zeros (b ∷ bits) h =
    let e : b ≡ 0 = All-head (λ x. x ≡ 0) b bits h in
    let r = low_number-zeros bits (All-tail (λ x. x ≡ 0) b bits h) in
    omega arith

-- zeros are cut in zeros
cut-zeros : (width n : ℕ) (bits : List ℕ) → All (λ b. b ≡ 0) bits → All (λ z. z ≡ 0) (cut width low_number n bits)
unfolding cut
cut-zeros width zero bits h = All-nil (λ z. z ≡ 0)
cut-zeros width (suc n) bits h =
    All-cons (λ z. z ≡ 0) (low_number (take width bits)) (cut width low_number n (drop width bits))
    (low_number-zeros (take width bits) (All-take (λ b. b ≡ 0) width bits h))
    (cut-zeros width n (drop width bits) (All-drop (λ b. b ≡ 0) width bits h))

-- the codes of an alphanumeric text's items
codes_of-alpha : (text : List ℕ) → All (λ b. b < 128) text →
    codes_of 7 (item_bits (twenties (alpha_bits text)))
    ≡ text ++ cut 7 low_number (short_of 20 (7 * length text) / 7) (replicate (short_of 20 (7 * length text)) 0)
unfolding codes_of alpha_bits
codes_of-alpha text h =
    let bits = flat_map (low_first 7) text ++ replicate (short_of 20 (7 * length text)) 0 in
    let are : AreBits bits =
    All-append (λ b. b < 2) (flat_map (low_first 7) text) (replicate (short_of 20 (7 * length text)) 0) (AreBits-flat_map 7 text)
    (All-replicate (λ b. b < 2) (short_of 20 (7 * length text)) 0 (lit< tt)) in
    let same : item_bits (twenties bits) ≡ bits = item_bits-twenties bits are (whole_alpha text) in
    let n : length bits / 7 ≡ length text + short_of 20 (7 * length text) / 7 = rw (length-alpha_bits text) (omega arith) in
    rw (same, n) (cut-codes 7 text (replicate (short_of 20 (7 * length text)) 0) (short_of 20 (7 * length text) / 7) h)

pub alpha_text-back : (text items : List ℕ) → alpha_payload text ≡ Ok items → alpha_text items ≡ text
unfolding alpha_text alpha_payload
alpha_text-back text items h =
    let p = unless_ok (text_fault is_bad_byte text) (twenties (alpha_bits text)) items h in
    let good = (fault_none is_bad_byte text p.0).1 in
    let small : All (λ b. b < 128) text = alpha_bytes text p.0 in
    let some : All (λ b. b ≢ 0) text = All-weaker (λ b. is_bad_byte b ≡ false) (λ b. b ≢ 0) (λ b g. (good_byte b g).0) text good in
    let s = short_of 20 (7 * length text) in
    let zeros : All (λ z. z ≡ 0) (cut 7 low_number (s / 7) (replicate s 0)) =
    cut-zeros 7 (s / 7) (replicate s 0) (All-replicate (λ b. b ≡ 0) s 0 refl) in
    rw (← p.1, codes_of-alpha text small)
    (trim_end-append 0 text (cut 7 low_number (s / 7) (replicate s 0)) zeros ∙ trim_end-none 0 text some)

nothing-more : (codes : List ℕ) → codes ++ cut 4 low_number 0 [] ≡ codes
unfolding cut
nothing-more codes = append-nil codes

-- the codes of a numeric text's items
codes_of-numeric : (text : List ℕ) →
    codes_of 4 (item_bits (twenties (numeric_bits text))) ≡ map code_or_space text ++ replicate (short_of 5 (length text)) 12
unfolding codes_of numeric_bits
codes_of-numeric text =
    let fill : List ℕ = replicate (short_of 5 (length text)) 12 in
    let codes : List ℕ = map code_or_space text ++ fill in
    let small : All (λ x. x < 2 ^ 4) codes =
    All-append (λ x. x < 2 ^ 4) (map code_or_space text) fill
    (All-map (λ x. x < 2 ^ 4) code_or_space text (λ k d lt. code_or_space-lt _))
    (All-replicate (λ x. x < 2 ^ 4) (short_of 5 (length text)) 12 (lit< tt)) in
    let same : item_bits (twenties (flat_map (low_first 4) codes)) ≡ flat_map (low_first 4) codes =
    item_bits-twenties (flat_map (low_first 4) codes) (AreBits-flat_map 4 codes) (whole_numeric text) in
    let len : length (flat_map (low_first 4) codes) ≡ 4 * length codes = length-flat_map-wide 4 (low_first 4) codes (length-low_first 4) in
    let n : length (flat_map (low_first 4) codes) / 4 ≡ length codes + 0 = omega arith in
    let bits : flat_map (low_first 4) codes ++ [] ≡ flat_map (low_first 4) codes = append-nil (flat_map (low_first 4) codes) in
    rw (same, n) (ap (cut 4 low_number (length codes + 0)) (sym bits) ∙ cut-codes 4 codes [] 0 small ∙ nothing-more codes)

characters-back : (text : List ℕ) → All (λ b. is_bad_digit b ≡ false) text → map character_of (map code_or_space text) ≡ text
characters-back [] h = refl
characters-back (b ∷ text) h =
    let one : character_of (code_or_space b) ≡ b = character_of-code_or_space b (All-head (λ x. is_bad_digit x ≡ false) b text h) in
    let others = characters-back text (All-tail (λ x. is_bad_digit x ≡ false) b text h) in
    rw (one, others) refl

spaces : (n : ℕ) → All (λ z. z ≡ 32) (map character_of (replicate n 12))
spaces n =
    All-map (λ z. z ≡ 32) character_of (replicate n 12) (All-replicate (λ k. character_of k ≡ 32) n 12 space_is)

pub numeric_text-back : (text items : List ℕ) → numeric_payload text ≡ Ok items → numeric_text items ≡ trim_end 32 text
unfolding numeric_text numeric_payload
numeric_text-back text items h =
    let p = unless_ok (text_fault is_bad_digit text) (twenties (numeric_bits text)) items h in
    let good = (fault_none is_bad_digit text p.0).1 in
    let s = short_of 5 (length text) in
    rw (← p.1, codes_of-numeric text, map-append character_of (map code_or_space text) (replicate s 12), characters-back text good)
    (trim_end-append 32 text (map character_of (replicate s 12)) (spaces s))
