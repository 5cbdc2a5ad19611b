-- The round of a page file is a round.
use Rattle.pocsag_laws.proofs.Prelude.{◌≡◌, ℕ, zero, suc, ◌+◌, ◌*◌, ◌/◌, ◌^◌, ◌<◌, ◌≤◌, ◌==◌, ◌⊎◌, inl, inr, Bool, true, false, List, [], ◌∷◌, ◌++◌, length, take, drop, nat_le, refl, sym, ap, subst, arith, Option, Some, None, Result, Ok, Err, IfOk, codes, flat_map, nat_tests, append-nil, length-drop, length-take-le, All-append, All-cons, All-drop, All-nil, All-replicate, All-take, All-weaker, list_any_none, AreItems, high_number, low_first, AreBits, AreBits-low_first, high_number-lt, Page, ◌>>=◌, Row, address_of, at_most, decimal, fault_after, fault_if, kind_of_field, of_record, of_text, or_fault, page_of, page_of_fields, pages_of, payload_of, pages_of_rows, verdict, with_page, AreGood, IsRound, has_address, is_bad_payload, is_reserved, last_address, page_fault_of, page_limit, of_files, one_name, page_at, paged, value_of}
use Rattle.std.proofs.Common.{cond}
use Rattle.std.specs.Str.{bytes_eq}
use Rattle.std.proofs.lemmas.List.{append_assoc, length-append}
use Rattle.pocsag_words.proofs.TruthValues.{and_false, not_above}
use Rattle.pocsag_text.specs.declared.fault.TextFault.{TextFault}
use Rattle.pocsag_text.specs.Bits.{cut}
use Rattle.pocsag_text.specs.Characters.{is_bad_digit}
use Rattle.pocsag_text.specs.Text.{alpha_bits, alpha_payload, is_bad_byte, item_limit, numeric_bits, numeric_payload, text_fault, twenties}
use Rattle.pocsag_text.proofs.Payloads.{fault_none, few_alpha, few_numeric, unless_ok}
use Rattle.pocsag_pages.specs.declared.fault.FieldFault.{FieldFault}
use Rattle.pocsag_pages.specs.declared.fault.FieldFault.TheVariants as field
use Rattle.pocsag_pages.specs.declared.fault.RecordFault.{RecordFault}
use Rattle.pocsag_pages.specs.declared.fault.RecordFault.TheVariants as wrong
use Rattle.pocsag_pages.specs.declared.fault.RoundFault.{RoundFault}
use Rattle.pocsag_pages.specs.PageList.{unless_empty}
use Rattle.pocsag_pages.proofs.GrownRounds.{good_none, good_push}
use Rattle.pocsag_pages.proofs.Judgements.{grown, judged, or_later}

-- what bits are cut in twenties has twenty bits
cut_small : (n : ℕ) (bits : List ℕ) → AreBits bits → 20 * n ≤ length bits → AreItems (cut 20 (high_number 0) n bits)
unfolding cut
cut_small zero bits are h = All-nil (λ item. item < 2 ^ 20)
cut_small (suc n) bits are h =
    let wide : length (take 20 bits) ≡ 20 = length-take-le 20 bits (omega arith) in
    let small : high_number 0 (take 20 bits) < 2 ^ (length (take 20 bits) + 0) =
    high_number-lt (take 20 bits) 0 0 (All-take (λ b. b < 2) 20 bits are) (omega arith) in
    All-cons (λ item. item < 2 ^ 20) (high_number 0 (take 20 bits)) (cut 20 (high_number 0) n (drop 20 bits)) (rw wide at small)
    (cut_small n (drop 20 bits) (All-drop (λ b. b < 2) 20 bits are) (omega (arith, length-drop 20 bits)))

twenties_small : (bits : List ℕ) → AreBits bits → AreItems (twenties bits)
twenties_small bits are = cut_small (length bits / 20) bits are (omega arith)

codes_are_bits : (width : ℕ) (codes rest : List ℕ) → AreBits rest → AreBits (flat_map (low_first width) codes ++ rest)
codes_are_bits width [] rest are = are
codes_are_bits width (x ∷ codes) rest are =
    subst AreBits (sym (append_assoc (low_first width x) (flat_map (low_first width) codes) rest))
    (All-append (λ b. b < 2) (low_first width x) (flat_map (low_first width) codes ++ rest) (AreBits-low_first width x)
    (codes_are_bits width codes rest are))

numeric_small : (text : List ℕ) → AreItems (twenties (numeric_bits text))
unfolding numeric_bits
numeric_small text =
    twenties_small (numeric_bits text) (subst AreBits (append-nil (numeric_bits text)) (codes_are_bits 4 _ [] (All-nil (λ b. b < 2))))

alpha_small : (text : List ℕ) → AreItems (twenties (alpha_bits text))
unfolding alpha_bits
alpha_small text = twenties_small (alpha_bits text) (codes_are_bits 7 text _ (All-replicate (λ b. b < 2) _ 0 (omega arith)))

-- the items of a text may stand in a page
record AreFew (items : List ℕ) : Type 0 where
  few : length items ≤ item_limit
  small : AreItems items

of_numeric : (text items : List ℕ) → numeric_payload text ≡ Ok items → AreFew items
unfolding numeric_payload
of_numeric text items e =
    let d = unless_ok (text_fault is_bad_digit text) (twenties (numeric_bits text)) items e in
    subst AreFew d.1 (record { few = few_numeric text (fault_none is_bad_digit text d.0).0; small = numeric_small text })

of_alpha : (text items : List ℕ) → alpha_payload text ≡ Ok items → AreFew items
unfolding alpha_payload
of_alpha text items e =
    let d = unless_ok (text_fault is_bad_byte text) (twenties (alpha_bits text)) items e in
    subst AreFew d.1 (record { few = few_alpha text (fault_none is_bad_byte text d.0).0; small = alpha_small text })

-- a page breaks no rule
abbrev IsFine : Page → Type 0
IsFine p = page_fault_of p ≡ None

small_item : (x : ℕ) → x < 2 ^ 20 → nat_le (2 ^ 20) x ≡ false
small_item x h = grind (arith, nat_tests)

tone_fine : (f : ℕ) → f < 4 → is_bad_payload f [] ≡ false
unfolding is_bad_payload
tone_fine f h = rw (not_above 3 f (omega arith), and_false) refl

text_fine : (f : ℕ) (items : List ℕ) → (f ≡ 0) ⊎ (f ≡ 3) → AreFew items → is_bad_payload f items ≡ false
unfolding is_bad_payload
text_fine f items (inl e) d =
    rw (e, not_above item_limit (length items) d.few, list_any_none (nat_le (2 ^ 20)) items (All-weaker (λ x. x < 2 ^ 20) (λ x. nat_le (2 ^ 20) x ≡ false) small_item items d.small)) refl
text_fine f items (inr e) d =
    rw (e, not_above item_limit (length items) d.few, list_any_none (nat_le (2 ^ 20)) items (All-weaker (λ x. x < 2 ^ 20) (λ x. nat_le (2 ^ 20) x ≡ false) small_item items d.small)) refl

module _ (a : ℕ) (low : a ≤ last_address) (free : is_reserved a ≡ false) where
  page_fine : (f : ℕ) (items : List ℕ) → is_bad_payload f items ≡ false → IsFine (record { address = a; function = f; payload = items })
  page_fine f items good = rw (not_above last_address a low, free, good) refl

  tone_page : (f : ℕ) (t : Bool) → f < 4 → IfOk (cond t (Ok []) (Err field.MessageForTone) >>= paged a f) IsFine
  tone_page f true known = page_fine f [] (tone_fine f known)
  tone_page f false known = tt

  text_page : (f : ℕ) (r : Result (List ℕ) TextFault) → (f ≡ 0) ⊎ (f ≡ 3) → ((items : List ℕ) → r ≡ Ok items → AreFew items) →
      IfOk (of_text r >>= paged a f) IsFine
  text_page f (Ok items) of few = page_fine f items (text_fine f items of (few items refl))
  text_page f (Err e) of few = tt

  named_fine : (name message : List ℕ) → IfOk (page_at a name message) IsFine
  unfolding kind_of_field payload_of
  named_fine name message =
      let t = length message == 0 in
      one_name IsFine _ (bytes_eq name (codes "tone0")) _ _ (tone_page 0 t (omega arith))
      (one_name IsFine _ (bytes_eq name (codes "tone1")) _ _ (tone_page 1 t (omega arith))
      (one_name IsFine _ (bytes_eq name (codes "tone2")) _ _ (tone_page 2 t (omega arith))
      (one_name IsFine _ (bytes_eq name (codes "tone3")) _ _ (tone_page 3 t (omega arith))
      (one_name IsFine _ (bytes_eq name (codes "numeric")) _ _ (text_page 0 (numeric_payload message) (inl refl) (of_numeric message))
      (one_name IsFine _ (bytes_eq name (codes "alpha")) _ None (text_page 3 (alpha_payload message) (inr refl) (of_alpha message)) tt)))))

-- what holds of the value of one step and then of the next
bound : {A B : Type 0} (Q : A → Type 0) (P : B → Type 0) (r : Result A FieldFault) (f : A → Result B FieldFault) → IfOk r Q →
    ((a : A) → Q a → IfOk (f a) P) → IfOk (r >>= f) P
bound Q P (Ok a) f first next = next a first
bound Q P (Err e) f first next = tt

-- an address that is read is in its range
abbrev IsLow : ℕ → Type 0
IsLow a = a ≤ last_address

in_range : (t : Bool) (n : ℕ) → nat_le n last_address ≡ t → IfOk (or_fault (cond t (Some n) None) field.BadAddress) IsLow
in_range true n e = grind (arith, nat_tests)
in_range false n e = tt

low_digits : (o : Option ℕ) → IfOk (or_fault (at_most last_address o) field.BadAddress) IsLow
low_digits None = tt
low_digits (Some n) = in_range (nat_le n last_address) n refl

low_address : (t : Bool) (o : Option ℕ) → IfOk (or_fault (cond t None (at_most last_address o)) field.BadAddress) IsLow
low_address true o = tt
low_address false o = low_digits o

address_low : (address : List ℕ) → IfOk (or_fault (address_of address) field.BadAddress) IsLow
unfolding address_of
address_low address = low_address _ (decimal 0 address)

unbroken : (t : Bool) (e : FieldFault) → IfOk (fault_if t e) (λ u. t ≡ false)
unbroken true e = tt
unbroken false e = refl

fields_fine : (address name message : List ℕ) → IfOk (page_of_fields address name message) IsFine
unfolding page_of_fields
fields_fine address name message =
    bound IsLow IsFine (or_fault (address_of address) field.BadAddress) _ (address_low address)
    (λ a low. bound (λ u. is_reserved a ≡ false) IsFine (fault_if (is_reserved a) field.ReservedAddress) _ (unbroken (is_reserved a) field.ReservedAddress)
    (λ u free. named_fine a low free name message))

of_record_fine : (r : Result Page FieldFault) → IfOk r IsFine → IfOk (of_record r) IsFine
of_record_fine (Ok p) fine = fine
of_record_fine (Err e) fine = tt

row_fine : (r : Row) → IfOk (page_of r) IsFine
unfolding page_of
row_fine [] = tt
row_fine (a ∷ []) = tt
row_fine (a ∷ k ∷ []) = tt
row_fine (a ∷ k ∷ m ∷ []) = of_record_fine (page_of_fields a k m) (fields_fine a k m)
row_fine (a ∷ k ∷ m ∷ n ∷ more) = tt

-- records one at a time
accepted : (b c : Bool) (n : ℕ) (later : Result (List Page) RoundFault) → (b ≡ false → c ≡ false → IfOk later IsRound) →
    IfOk (or_later (cond b (Some wrong.DuplicateAddress) (cond c (Some wrong.TooManyPages) None)) n later) IsRound
accepted true c n later more = tt
accepted false true n later more = tt
accepted false false n later more = more refl refl

one_record : (ps : List Page) (n : ℕ) (v : Result Page RecordFault) (later : Result (List Page) RoundFault) → IfOk v IsFine →
    ((p : Page) → v ≡ Ok p → IsFine p → has_address ps p.address ≡ false → nat_le page_limit n ≡ false → IfOk later IsRound) →
    IfOk (or_later (fault_after n ps v) n later) IsRound
one_record ps n (Err e) later fine more = tt
one_record ps n (Ok p) later fine more = accepted (has_address ps p.address) (nat_le page_limit n) n later (λ b c. more p refl fine b c)

under : (n : ℕ) → nat_le page_limit n ≡ false → n < 20000
under n h = grind (arith, nat_tests)

some_round : (ps : List Page) → AreGood ps → length ps ≤ 20000 → IfOk (unless_empty ps) IsRound
some_round [] good few = tt
some_round (p ∷ ps) good few = record { some = omega arith; few = few; good = good }

grown_round : (rows : List Row) (ps : List Page) (n : ℕ) → AreGood ps → length ps ≡ n → n ≤ 20000 → IfOk (grown false ps n rows) IsRound
unfolding grown pages_of
grown_round [] ps n good long few = some_round ps good (omega arith)
grown_round (r ∷ rows) ps n good long few =
    one_record ps n (page_of r) _ (row_fine r) (λ p e fine free room.
    let same : ps ++ pages_of (r ∷ []) ≡ ps ++ p ∷ [] = ap (λ v. ps ++ with_page v []) e in
    let more = grown_round rows (ps ++ p ∷ []) (n + 1) (good_push ps p good fine free)
    (omega (arith, length-append ps (p ∷ []))) (omega (arith, under n room)) in
    subst (λ qs. IfOk (grown false qs (n + 1) rows) IsRound) (sym same) more)

all_round : (rows : List Row) → IfOk (pages_of_rows false rows) IsRound
all_round rows = subst (λ v. IfOk v IsRound) (sym (judged false rows)) (grown_round rows [] 0 good_none refl (omega arith))

pub file_round : (file : List ℕ) (R : List Page) → verdict file ≡ Ok R → IsRound R
file_round file R e = value_of IsRound _ R (of_files IsRound false all_round file) e
