-- When a text has a payload, and which one.
use Rattle.pocsag_text.proofs.Prelude.{◌≡◌, ◌≢◌, ℕ, zero, suc, ◌+◌, ◌*◌, ◌/◌, ◌%◌, ◌<◌, ◌≤◌, Bool, true, false, cond, eqb, ltb, List, ◌∷◌, ◌++◌, length, get_or, map, replicate, position, Option, Some, None, Ok, Err, All, refl, sym, ap, ◌∙◌, arith, flat_map, list_any, position_or_len, false_from_ne_true, length-append, length-map, length-replicate, flat_map-append, All-from_get_or, All-weaker, list_any_at, low_first, code_or_space, is_bad_digit, fault_of, fault_of_place, text_fault, unless, short_of, twenties, is_bad_byte, numeric_bits, alpha_bits, numeric_payload, alpha_payload}
use Rattle.std.proofs.lemmas.Bool.Decides.{nat_tests}
use Rattle.std.proofs.lemmas.List.Sums.{fails_before_first, position_or_len_is}
use Rattle.pocsag_text.specs.declared.fault.TextFault.{TextFault}
use Rattle.pocsag_text.specs.declared.fault.TextFault.TheVariants as fault
use Rattle.pocsag_text.proofs.BitLists.{length-low_first}
use Rattle.pocsag_text.proofs.Cuts.{length-cut, length-flat_map-wide}

-- where no element passes, none is the first
pub none_passes : (p : ℕ → Bool) (xs : List ℕ) → list_any p xs ≡ false → None ≡ position p xs
none_passes p xs h =
    let all : position_or_len p xs ≡ length xs =
    position_or_len_is p xs (length xs) 0 (omega arith)
    (λ k lt. false_from_ne_true (p (get_or xs k 0)) (λ t. cc (list_any_at p xs k 0 lt t, h))) (λ lt. absurd (omega arith)) in
    let past : ltb (position_or_len p xs) (length xs) ≡ false = grind (arith, nat_tests) in
    rw past refl

pub none_from_cond : {X : Type 0} (b : Bool) (x : X) (o : Option X) → cond b (Some x) o ≡ None → (b ≡ false) × (o ≡ None)
none_from_cond true x o h = cc
none_from_cond false x o h = (refl, h)

place_none : (first_bad : Option ℕ) (count : ℕ) → fault_of_place first_bad count ≡ None → (first_bad ≡ None) × (count ≤ 4000)
place_none (Some place) count h = cc
place_none None count h =
    let t = (none_from_cond (ltb 4000 count) fault.TooLong None h).0 in (refl, grind (arith, nat_tests))

-- the fault of a text, by the place of its first bad character
pub as_fault : (is_bad : ℕ → Bool) (text : List ℕ) (first : Option ℕ) (told : Option TextFault) → first ≡ position is_bad text
    → told ≡ fault_of first (length text) → text_fault is_bad text ≡ told
unfolding text_fault
as_fault is_bad text first told at is = sym (is ∙ ap (λ place. fault_of place (length text)) at)

-- a text without a fault is no longer than the limit and has no bad character
pub fault_none : (is_bad : ℕ → Bool) (text : List ℕ) → text_fault is_bad text ≡ None → (length text ≤ 4000)
    × All (λ b. is_bad b ≡ false) text
unfolding text_fault
fault_none is_bad text h =
    let p = place_none (position is_bad text) (length text) (none_from_cond (eqb (length text) 0) fault.EmptyMessage _ h).1 in
    let n : ltb (position_or_len is_bad text) (length text) ≡ false =
    (none_from_cond (ltb (position_or_len is_bad text) (length text)) (position_or_len is_bad text) None p.0).0 in
    let past : length text ≤ position_or_len is_bad text = grind (arith, nat_tests) in
    (p.1, All-from_get_or (λ b. is_bad b ≡ false) text 0 (λ k lt. fails_before_first is_bad text k 0 (omega arith)))

never_memory : (over : Bool) → cond over (Some fault.TooLong) None ≡ Some fault.OutOfMemory → ⊥
never_memory true h = cc
never_memory false h = cc

never_at_place : (b : Bool) (first_bad : Option ℕ) (count : ℕ) →
    cond b (Some fault.EmptyMessage) (fault_of_place first_bad count) ≡ Some fault.OutOfMemory → ⊥
never_at_place true first_bad count h = cc
never_at_place false (Some place) count h = cc
never_at_place false None count h = never_memory (ltb 4000 count) h

-- want of memory is no fault of a text
pub fault_not_memory : (is_bad : ℕ → Bool) (text : List ℕ) (e : TextFault) → text_fault is_bad text ≡ Some e → e ≢ fault.OutOfMemory
unfolding text_fault
fault_not_memory is_bad text e h m =
    never_at_place (eqb (length text) 0) (position is_bad text) (length text) (h ∙ ap Some m)

pub good_byte : (b : ℕ) → is_bad_byte b ≡ false → (b ≢ 0) × (b < 128)
good_byte b h = grind (arith, nat_tests)

pub alpha_payload-good : (text : List ℕ) → text_fault is_bad_byte text ≡ None → alpha_payload text ≡ Ok (twenties (alpha_bits text))
unfolding alpha_payload
alpha_payload-good text h = ap (λ o. unless o (twenties (alpha_bits text))) h

pub alpha_payload-bad : (text : List ℕ) (e : TextFault) → text_fault is_bad_byte text ≡ Some e → alpha_payload text ≡ Err e
unfolding alpha_payload
alpha_payload-bad text e h = ap (λ o. unless o (twenties (alpha_bits text))) h

pub numeric_payload-good : (text : List ℕ) → text_fault is_bad_digit text ≡ None → numeric_payload text ≡ Ok (twenties (numeric_bits text))
unfolding numeric_payload
numeric_payload-good text h = ap (λ o. unless o (twenties (numeric_bits text))) h

pub numeric_payload-bad : (text : List ℕ) (e : TextFault) → text_fault is_bad_digit text ≡ Some e → numeric_payload text ≡ Err e
unfolding numeric_payload
numeric_payload-bad text e h = ap (λ o. unless o (twenties (numeric_bits text))) h

pub unless_ok : (o : Option TextFault) (items good : List ℕ) → unless o items ≡ Ok good → (o ≡ None) × (items ≡ good)
unless_ok None items good h = (refl, cc)
unless_ok (Some e) items good h = cc

-- the fill makes a multiple of twenty bits
length-numeric_bits : (text : List ℕ) → length (numeric_bits text) ≡ 4 * (length text + short_of 5 (length text))
unfolding numeric_bits
length-numeric_bits text =
    let n = short_of 5 (length text) in
    let codes = map code_or_space text in
    let filled = length-replicate {A = ℕ} n 12 in
    let joined = length-append codes (replicate n 12) in
    let wide = length-flat_map-wide 4 (low_first 4) (codes ++ replicate n 12) (length-low_first 4) in
    omega (arith, wide, joined, filled, length-map text code_or_space)

pub length-alpha_bits : (text : List ℕ) → length (alpha_bits text) ≡ 7 * length text + short_of 20 (7 * length text)
unfolding alpha_bits
length-alpha_bits text =
    let n = short_of 20 (7 * length text) in
    let filled = length-replicate {A = ℕ} n 0 in
    let joined = length-append (flat_map (low_first 7) text) (replicate n 0) in
    omega (arith, joined, filled, length-flat_map-wide 7 (low_first 7) text (length-low_first 7))

pub whole_numeric : (text : List ℕ) → length (numeric_bits text) % 20 ≡ 0
whole_numeric text = omega (arith, length-numeric_bits text)

pub whole_alpha : (text : List ℕ) → length (alpha_bits text) % 20 ≡ 0
whole_alpha text = omega (arith, length-alpha_bits text)

pub few_numeric : (text : List ℕ) → length text ≤ 4000 → length (twenties (numeric_bits text)) ≤ 1400
few_numeric text h =
    rw (length-cut 20 _ (length (numeric_bits text) / 20) (numeric_bits text), length-numeric_bits text) (omega arith)

pub few_alpha : (text : List ℕ) → length text ≤ 4000 → length (twenties (alpha_bits text)) ≤ 1400
few_alpha text h =
    rw (length-cut 20 _ (length (alpha_bits text) / 20) (alpha_bits text), length-alpha_bits text) (omega arith)

-- the bits of the characters and those of the fill
zeros : (n : ℕ) → flat_map (low_first 1) (replicate n 0) ≡ replicate n 0
unfolding low_first
zeros zero = refl
zeros (suc n) = ap (λ bits. 0 ∷ bits) (zeros n)

pub filled_numeric : (text packed filled : List ℕ) → packed ≡ flat_map (low_first 4) (map code_or_space text) →
    filled ≡ packed ++ flat_map (low_first 4) (replicate (short_of 5 (length text)) 12) → filled ≡ numeric_bits text
unfolding numeric_bits
filled_numeric text packed filled p f =
    rw (f, p) (sym (flat_map-append (low_first 4) (map code_or_space text) (replicate (short_of 5 (length text)) 12)))

pub filled_alpha : (text packed filled : List ℕ) → packed ≡ flat_map (low_first 7) text →
    filled ≡ packed ++ flat_map (low_first 1) (replicate (short_of 20 (7 * length text)) 0) → filled ≡ alpha_bits text
unfolding alpha_bits
filled_alpha text packed filled p f = rw (f, p, zeros (short_of 20 (7 * length text))) refl

-- what the contracts of the packers say, from what the parts gave
pub alpha_bytes : (text : List ℕ) → text_fault is_bad_byte text ≡ None → All (λ b. b < 128) text
alpha_bytes text h =
    All-weaker (λ b. is_bad_byte b ≡ false) (λ b. b < 128) (λ b g. (good_byte b g).1) text (fault_none is_bad_byte text h).1
