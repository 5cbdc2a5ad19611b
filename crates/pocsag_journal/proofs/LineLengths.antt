-- How long the text of an edit is.
use Rattle.pocsag_journal.proofs.Prelude.{◌≡◌, ℕ, ◌+◌, ◌*◌, ◌≤◌, Bool, true, false, cond, List, [], ◌∷◌, length, arith, refl, ap, Option, Some, None, Result, Ok, Err, IfOk, codes, ◌||◌, nat_lt, decimal, bytes_eq, or_parts, nat_tests, length-decimal-le, length-append, default_writer, fields_text, is_blank, row_text, TextFault, alpha_payload, is_bad_byte, numeric_payload, text_fault, unless, field_short, page_at, paged, value_of, ◌>>=◌, Row, address_digits, address_of, fault_if, kind_of_field, of_text, or_fault, page_of_fields, payload_of, is_reserved, FieldFault, Page, Asked, IsDone, IsEdit, add, cancel, clear, sent, kept_line_limit}
use Rattle.std.specs.Prelude.{nat_eq}
use Rattle.pocsag_text.specs.Characters.{is_bad_digit}
use Rattle.pocsag_text.proofs.Payloads.{fault_none}
use Rattle.pocsag_pages.specs.declared.fault.FieldFault.TheVariants as field
use Rattle.pocsag_journal.proofs.EditRuns.{edit_of}
use Rattle.pocsag_journal.proofs.Fields.{edit_record, is_word}

-- the fields of an edit
two_length : (word address : List ℕ) →
    length (row_text default_writer (word ∷ address ∷ [])) ≤ 2 * (length word + length address) + 6
unfolding fields_text is_blank
two_length word address = simp length-append (omega (arith, field_short word, field_short address))

four_length : (word address name message : List ℕ) →
    length (row_text default_writer (word ∷ address ∷ name ∷ message ∷ [])) ≤ 2 * (length word + length address + length name + length message) + 12
unfolding fields_text is_blank
four_length word address name message =
    simp length-append (omega (arith, field_short word, field_short address, field_short name, field_short message))

-- the fields of a page
pub then_ok : {A B : Type 0} (r : Result A FieldFault) (f : A → Result B FieldFault) (b : B) → (r >>= f) ≡ Ok b →
    (a : A) × (r ≡ Ok a) × (f a ≡ Ok b)
then_ok (Ok a) f b e = (a, refl, e)
then_ok (Err fault) f b e = absurd (cc e)

there : {A : Type 0} (o : Option A) (fault : FieldFault) (a : A) → or_fault o fault ≡ Ok a → o ≡ Some a
there None fault a e = absurd (cc e)
there (Some b) fault a e = cc e

no_cond : {A : Type 0} (t : Bool) (o : Option A) (a : A) → cond t None o ≡ Some a → t ≡ false
no_cond true o a e = absurd (cc e)
no_cond false o a e = refl

address_length : (address : List ℕ) (n : ℕ) → address_of address ≡ Some n → length address ≤ 7
unfolding address_of
address_length address n e =
    let none = no_cond (nat_eq (length address) 0 || nat_lt address_digits (length address)) _ n e in
    let few = (or_parts (nat_eq (length address) 0) (nat_lt address_digits (length address)) none).1 in
    grind (arith, nat_tests)

-- what is left of the fields once the address is read
abbrev AreShort : (name message : List ℕ) → Type 0
AreShort name message = (length name ≤ 7) × (length message ≤ 4000)

by_name : {K : Type 0} (P : Page → Type 0) (f : K → Result Page FieldFault) (t : Bool) (k : K) (others : Option K) → (t ≡ true → IfOk (f k) P) →
    IfOk (or_fault others field.BadKind >>= f) P → IfOk (or_fault (cond t (Some k) others) field.BadKind >>= f) P
by_name P f true k others here more = here refl
by_name P f false k others here more = more

is_none : (n : ℕ) → nat_eq n 0 ≡ true → n ≤ 4000
is_none n e = grind (arith, nat_tests)

no_message : {P : Type 0} (a f : ℕ) (t : Bool) → (t ≡ true → P) → IfOk (cond t (Ok []) (Err field.MessageForTone) >>= paged a f) (λ page. P)
no_message a f true short = short refl
no_message a f false short = tt

of_message : {P : Type 0} (a f : ℕ) (o : Option TextFault) (all : List ℕ) → (o ≡ None → P) → IfOk (of_text (unless o all) >>= paged a f) (λ page. P)
of_message a f None all short = short refl
of_message a f (Some fault) all short = tt

tone_short : (a f : ℕ) (name word message : List ℕ) → length word ≤ 7 → bytes_eq name word ≡ true →
    IfOk (cond (nat_eq (length message) 0) (Ok []) (Err field.MessageForTone) >>= paged a f) (λ page. AreShort name message)
tone_short a f name word message few is =
    no_message a f (nat_eq (length message) 0) (λ none. (rw (is_word name word is) few, is_none (length message) none))

text_short : (is_bad : ℕ → Bool) (a f : ℕ) (name word message all : List ℕ) → length word ≤ 7 → bytes_eq name word ≡ true →
    IfOk (of_text (unless (text_fault is_bad message) all) >>= paged a f) (λ page. AreShort name message)
text_short is_bad a f name word message all few is =
    of_message a f (text_fault is_bad message) all (λ none. (rw (is_word name word is) few, (fault_none is_bad message none).0))

names_short : (a : ℕ) (name message : List ℕ) → IfOk (page_at a name message) (λ page. AreShort name message)
unfolding kind_of_field payload_of numeric_payload alpha_payload
names_short a name message =
    let Short = λ (page : Page). AreShort name message in
    by_name Short _ (bytes_eq name (codes "tone0")) _ _ (tone_short a 0 name (codes "tone0") message (omega arith))
    (by_name Short _ (bytes_eq name (codes "tone1")) _ _ (tone_short a 1 name (codes "tone1") message (omega arith))
    (by_name Short _ (bytes_eq name (codes "tone2")) _ _ (tone_short a 2 name (codes "tone2") message (omega arith))
    (by_name Short _ (bytes_eq name (codes "tone3")) _ _ (tone_short a 3 name (codes "tone3") message (omega arith))
    (by_name Short _ (bytes_eq name (codes "numeric")) _ _ (text_short is_bad_digit a 0 name (codes "numeric") message _ (omega arith))
    (by_name Short _ (bytes_eq name (codes "alpha")) _ None (text_short is_bad_byte a 3 name (codes "alpha") message _ (omega arith)) tt)))))

fields_length : (address name message : List ℕ) (page : Page) → page_of_fields address name message ≡ Ok page →
    (length address ≤ 7) × AreShort name message
unfolding page_of_fields
fields_length address name message page e =
    let a = then_ok (or_fault (address_of address) field.BadAddress) _ page e in
    let b = then_ok (fault_if (is_reserved a.0) field.ReservedAddress) _ page a.2 in
    (address_length address a.0 (there (address_of address) field.BadAddress a.0 a.1), value_of (λ page. AreShort name message) (page_at a.0 name message) page (names_short a.0 name message) b.2)

-- *Length of a line*
asked_length : (asked : Asked) (before after : List Page) → IsDone (Some asked) before after →
    length (row_text default_writer (edit_record asked)) ≤ kept_line_limit
unfolding fields_text is_blank
asked_length clear before after d = omega arith
asked_length (cancel a) before after d =
    let short = address_length a d.page.address d.spelled in
    omega (arith, two_length (codes "cancel") a, short)
asked_length (sent a) before after d =
    let long : length (decimal d.count) ≤ 10 =
    length-decimal-le 10 d.count (omega arith) (omega (arith, d.spelled.small)) (omega (arith, d.spelled.small)) in
    let same : length a ≡ length (decimal d.count) = ap length d.spelled.spelled in
    omega (arith, two_length (codes "sent") a, long, same)
asked_length (add a k m) before after d =
    let short = fields_length a k m d.page d.spelled in
    omega (arith, four_length (codes "add") a k m, short.0, short.1.0, short.1.1)

pub line_length : (row : Row) (before after : List Page) → IsEdit row before after → length (row_text default_writer row) ≤ kept_line_limit
line_length row before after d =
    let edit = edit_of row before after d in
    rw edit.is (asked_length edit.asked before after edit.done)
