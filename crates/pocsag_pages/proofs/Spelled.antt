-- Fields that spell a page.
use Rattle.pocsag_pages.proofs.Prelude.{◌≡◌, ◌≢◌, ℕ, zero, suc, ◌+◌, ◌-◌, ◌*◌, ◌/◌, ◌%◌, ◌^◌, ◌<◌, ◌≤◌, true, false, List, [], ◌∷◌, ◌++◌, length, nat_le, refl, ap, ◌∙◌, inl, inr, arith, Some, Ok, codes, is_ascii_digit, cases_Bool, ne_eqb, nat_tests, alpha_payload, numeric_payload, not_above, PageKind, is_reserved, last_address}
use Rattle.std.specs.Fmt.{decimal}
use Rattle.std.proofs.lemmas.Fmt.{decimal_by_steps, decimal_nonempty, length-decimal-le}
use Rattle.pocsag_pages.specs.declared.record.PageKind.TheVariants as kind
use Rattle.pocsag_pages.specs.PageFile.{address_of, at_most, decimal as read_digits, function_of, kind_of_field, page_of_fields, payload_of}

-- digits that are read, and one more
read_more : (v w c : ℕ) (ds : List ℕ) → is_ascii_digit c ≡ true → read_digits v ds ≡ Some w → read_digits v (ds ++ c ∷ []) ≡ Some (10 * w + (c - 48))
unfolding read_digits
read_more v w c [] d e = let same : v ≡ w = cc in rw (d, same) refl
read_more v w c (b ∷ ds) d e =
    elim (cases_Bool (is_ascii_digit b)) [
      | inl digit ↦ rw digit (read_more (10 * v + (b - 48)) w c ds d (rw digit at e))
      | inr other ↦ absurd (let n = rw other at e in cc)
    ]

is_digit : (d : ℕ) → d < 10 → is_ascii_digit (48 + d) ≡ true
is_digit d h = grind (arith, nat_tests)

read_one : (m : ℕ) → m < 10 → read_digits 0 ((48 + m) ∷ []) ≡ Some m
unfolding read_digits
read_one m h = let same : 10 * 0 + (48 + m - 48) ≡ m = omega arith in rw (is_digit m h) (ap Some same)

decimal_read : (n : ℕ) → n < 2 ^ 64 → read_digits 0 (decimal n) ≡ Some n
decimal_read n small =
    decimal_by_steps (λ m ds. read_digits 0 ds ≡ Some m) read_one
    (λ m ds l h.
    let same : 10 * (m / 10) + (48 + m % 10 - 48) ≡ m = omega arith in
    read_more 0 (m / 10) (48 + m % 10) ds (is_digit (m % 10) (omega arith)) h ∙ ap Some same)
    n small

low_enough : (a : ℕ) → a ≤ 2097151 → at_most last_address (Some a) ≡ Some a
low_enough a h = let t : nat_le a 2097151 ≡ true = grind (arith, nat_tests) in rw t refl

pub address_back : (a : ℕ) → a ≤ last_address → address_of (decimal a) ≡ Some a
unfolding address_of
address_back a h =
    let small : a < 2 ^ 64 = omega arith in
    let some : length (decimal a) ≢ 0 = λ z. let n = decimal_nonempty a small in omega arith in
    let few : length (decimal a) ≤ 7 = length-decimal-le 7 a (omega arith) (omega arith) small in
    rw (ne_eqb _ _ some, not_above 7 (length (decimal a)) few, decimal_read a small) (low_enough a h)

-- the kinds by their names
tone_named : (f : ℕ) → f < 4 → kind_of_field (codes "tone" ++ (48 + f) ∷ []) ≡ Some (kind.Tone f)
unfolding kind_of_field
tone_named zero h = refl
tone_named (suc zero) h = refl
tone_named (suc (suc zero)) h = refl
tone_named (suc (suc (suc zero))) h = refl
tone_named (suc (suc (suc (suc f)))) h = absurd (omega arith)

numeric_named : kind_of_field (codes "numeric") ≡ Some kind.Numeric
unfolding kind_of_field
numeric_named = refl

alpha_named : kind_of_field (codes "alpha") ≡ Some kind.Alpha
unfolding kind_of_field
alpha_named = refl

-- fields by their parts
fields_are : (a : ℕ) (k : PageKind) (name message items : List ℕ) → a ≤ last_address → is_reserved a ≡ false → kind_of_field name ≡ Some k
    → payload_of k message ≡ Ok items
    → page_of_fields (decimal a) name message ≡ Ok (record { address = a; function = function_of k; payload = items })
unfolding page_of_fields
fields_are a k name message items low free named packed = rw (address_back a low, free, named, packed) refl

digits_packed : (text items : List ℕ) → numeric_payload text ≡ Ok items → payload_of kind.Numeric text ≡ Ok items
unfolding payload_of
digits_packed text items e = rw e refl

characters_packed : (text items : List ℕ) → alpha_payload text ≡ Ok items → payload_of kind.Alpha text ≡ Ok items
unfolding payload_of
characters_packed text items e = rw e refl

tone_packed : (f : ℕ) → payload_of (kind.Tone f) [] ≡ Ok []
unfolding payload_of
tone_packed f = refl

-- the page of an address and a message
module _ (a : ℕ) (low : a ≤ last_address) (free : is_reserved a ≡ false) where
  pub tone_spelled : (f : ℕ) → f < 4
      → page_of_fields (decimal a) (codes "tone" ++ (48 + f) ∷ []) [] ≡ Ok (record { address = a; function = f; payload = [] })
  tone_spelled f h = fields_are a (kind.Tone f) _ [] [] low free (tone_named f h) (tone_packed f)

  pub digits_spelled : (text items : List ℕ) → numeric_payload text ≡ Ok items
      → page_of_fields (decimal a) (codes "numeric") text ≡ Ok (record { address = a; function = 0; payload = items })
  digits_spelled text items e = fields_are a kind.Numeric _ text items low free numeric_named (digits_packed text items e)

  pub characters_spelled : (text items : List ℕ) → alpha_payload text ≡ Ok items
      → page_of_fields (decimal a) (codes "alpha") text ≡ Ok (record { address = a; function = 3; payload = items })
  characters_spelled text items e = fields_are a kind.Alpha _ text items low free alpha_named (characters_packed text items e)
