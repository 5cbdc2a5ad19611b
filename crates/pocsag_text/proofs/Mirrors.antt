-- Codes with their bits reversed.
use Rattle.pocsag_text.proofs.Prelude.{◌≡◌, ℕ, ◌+◌, ◌-◌, ◌/◌, ◌^◌, ◌<◌, ◌≤◌, length, map, slice_index, ◌++◌, Bool, true, ◌&&◌, eqb, refl, ap, ◌∙◌, arith, range_with_len, and_parts, eqb-true, low_first, high_first, low_number, high_number, REVERSED}
use Rattle.std.specs.Int.{w8, reverse_bits, reverse_bits_onto}
use Rattle.std.proofs.lemmas.List.FromFn.{get_or-map-range_with_len}
use Rattle.pocsag_text.proofs.Below.{all_below, passes, and_left}
use Rattle.pocsag_text.proofs.BitLists.{length-low_first, length-high_first, AreBits-low_first, AreBits-high_first, low_first-low_number, high_first-high_number, high_number-lt}

table : REVERSED ≡ map (reverse_bits w8) (range_with_len 0 256)
unfolding reverse_bits_onto
table = refl

pub reversed : (code : ℕ) → code < 256 → slice_index REVERSED code ≡ reverse_bits w8 code
reversed code h =
    ap (λ xs. slice_index xs code) table ∙ get_or-map-range_with_len (reverse_bits w8) 0 256 code code 0 h (omega arith)

-- a code whose bits are reversed
abbrev mirrored : ℕ → ℕ → ℕ
mirrored width code = reverse_bits w8 code / 2 ^ (8 - width)

-- the mirrored code is what the bits make in the other order, at each width and code
agrees : ℕ → ℕ → Bool
agrees width code =
    eqb (mirrored width code) (high_number 0 (low_first width code)) && eqb (mirrored width code) (low_number (high_first width code))

all_agree : all_below 9 (λ width. all_below (2 ^ width) (agrees width)) ≡ true
unfolding all_below agrees low_first high_first low_number high_number reverse_bits_onto
all_agree = refl

mirrored_agrees : (width code : ℕ) → width ≤ 8 → code < 2 ^ width → agrees width code ≡ true
mirrored_agrees width code narrow fits =
    passes (2 ^ width) (agrees width) (passes 9 (λ w. all_below (2 ^ w) (agrees w)) all_agree width (omega arith)) code fits

mirrored_high : (width code : ℕ) → width ≤ 8 → code < 2 ^ width → mirrored width code ≡ high_number 0 (low_first width code)
unfolding agrees
mirrored_high width code narrow fits =
    eqb-true _ _ (and_left _ _ (mirrored_agrees width code narrow fits))

mirrored_low : (width code : ℕ) → width ≤ 8 → code < 2 ^ width → mirrored width code ≡ low_number (high_first width code)
unfolding agrees
mirrored_low width code narrow fits =
    eqb-true _ _ (and_parts _ _ (mirrored_agrees width code narrow fits)).1

pub high_first-mirrored : (width code : ℕ) → width ≤ 8 → code < 2 ^ width →
    high_first width (reverse_bits w8 code / 2 ^ (8 - width)) ≡ low_first width code
high_first-mirrored width code narrow fits =
    let bits = low_first width code in
    let len : length bits + 0 ≡ width = omega (arith, length-low_first width code) in
    let b : high_first width (high_number 0 bits) ≡ high_first 0 0 ++ bits =
    rw len at (high_first-high_number bits 0 0 (AreBits-low_first width code)) in
    ap (high_first width) (mirrored_high width code narrow fits) ∙ b ∙ (unfold high_first in refl)

pub low_first-mirrored : (width code : ℕ) → width ≤ 8 → code < 2 ^ width →
    low_first width (reverse_bits w8 code / 2 ^ (8 - width)) ≡ high_first width code
low_first-mirrored width code narrow fits =
    let bits = high_first width code in
    let len : length bits ≡ width = length-high_first width code in
    let b : low_first width (low_number bits) ≡ bits = rw len at (low_first-low_number bits (AreBits-high_first width code)) in
    ap (low_first width) (mirrored_low width code narrow fits) ∙ b

pub mirrored-lt : (width code : ℕ) → width ≤ 8 → code < 2 ^ width → reverse_bits w8 code / 2 ^ (8 - width) < 2 ^ width
mirrored-lt width code narrow fits =
    let bits = low_first width code in
    let len : length bits + 0 ≡ width = omega (arith, length-low_first width code) in
    let lt : high_number 0 bits < 2 ^ width = rw len at (high_number-lt bits 0 0 (AreBits-low_first width code) (omega arith)) in
    rw (mirrored_high width code narrow fits) lt
