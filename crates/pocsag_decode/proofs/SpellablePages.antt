-- Each page that fields spell is spellable.
use Rattle.pocsag_decode.proofs.Prelude.{◌≡◌, ℕ, ◌<◌, ◌==◌, Bool, true, false, cond, List, [], ◌∷◌, length, All, refl, subst, arith, None, Ok, Err, IfOk, All-cons, All-nil, alpha_payload, numeric_payload, Page, ◌>>=◌, Row, address_of, fault_if, first_fault, function_of, is_header, kind_of_field, of_record, of_text, or_fault, page_of, page_of_fields, pages_of, pages_unless, pages_of_all_rows, pages_of_rows, payload_of, held_pages, with_page, unless_empty, is_reserved, IsSpellable, characters, digits, silent}
use Rattle.std.specs.Prelude.{Option, Some, Result, codes}
use Rattle.std.specs.Str.{bytes_eq}
use Rattle.pocsag_text.specs.declared.fault.TextFault.{TextFault}
use Rattle.pocsag_pages.specs.declared.fault.FieldFault.{FieldFault}
use Rattle.pocsag_pages.specs.declared.fault.FieldFault.TheVariants as field
use Rattle.pocsag_pages.specs.declared.fault.RoundFault.{RoundFault}
use Rattle.pocsag_pages.specs.declared.fault.RoundFault.TheVariants as fault

-- what is left of the fields once the one before is read
left : {A B : Type 0} (P : B → Type 0) (r : Result A FieldFault) (f : A → Result B FieldFault) → ((a : A) → IfOk (f a) P) → IfOk (r >>= f) P
left P (Ok a) f each = each a
left P (Err e) f each = tt

pub one_name : {K B : Type 0} (P : B → Type 0) (f : K → Result B FieldFault) (t : Bool) (k : K) (others : Option K) → IfOk (f k) P →
    IfOk (or_fault others field.BadKind >>= f) P → IfOk (or_fault (cond t (Some k) others) field.BadKind >>= f) P
one_name P f true k others here more = here
one_name P f false k others here more = more

-- the page of a kind
abbrev pub paged : (address function : ℕ) → List ℕ → Result Page FieldFault
paged address function payload = Ok (record { address = address; function = function; payload = payload })

of_tone : (a f : ℕ) (t : Bool) → f < 4 → IfOk (cond t (Ok []) (Err field.MessageForTone) >>= paged a f) IsSpellable
of_tone a f true known = silent known
of_tone a f false known = tt

of_digits : (a : ℕ) (text : List ℕ) (r : Result (List ℕ) TextFault) → numeric_payload text ≡ r → IfOk (of_text r >>= paged a 0) IsSpellable
of_digits a text (Ok []) e = silent (omega arith)
of_digits a text (Ok (item ∷ items)) e = digits text e
of_digits a text (Err f) e = tt

of_characters : (a : ℕ) (text : List ℕ) (r : Result (List ℕ) TextFault) → alpha_payload text ≡ r →
    IfOk (of_text r >>= paged a 3) IsSpellable
of_characters a text (Ok []) e = silent (omega arith)
of_characters a text (Ok (item ∷ items)) e = characters text e
of_characters a text (Err f) e = tt

abbrev pub page_at : (address : ℕ) (name message : List ℕ) → Result Page FieldFault
page_at address name message =
    or_fault (kind_of_field name) field.BadKind >>= λ its_kind.
    payload_of its_kind message >>= λ payload.
    Ok (record { address = address; function = function_of its_kind; payload = payload })

named_spelled : (a : ℕ) (name message : List ℕ) → IfOk (page_at a name message) IsSpellable
unfolding kind_of_field payload_of
named_spelled a name message =
    let t = length message == 0 in
    one_name IsSpellable _ (bytes_eq name (codes "tone0")) _ _ (of_tone a 0 t (omega arith))
    (one_name IsSpellable _ (bytes_eq name (codes "tone1")) _ _ (of_tone a 1 t (omega arith))
    (one_name IsSpellable _ (bytes_eq name (codes "tone2")) _ _ (of_tone a 2 t (omega arith))
    (one_name IsSpellable _ (bytes_eq name (codes "tone3")) _ _ (of_tone a 3 t (omega arith))
    (one_name IsSpellable _ (bytes_eq name (codes "numeric")) _ _ (of_digits a message (numeric_payload message) refl)
    (one_name IsSpellable _ (bytes_eq name (codes "alpha")) _ None (of_characters a message (alpha_payload message) refl) tt)))))

fields_spelled : (address name message : List ℕ) → IfOk (page_of_fields address name message) IsSpellable
unfolding page_of_fields
fields_spelled address name message =
    left IsSpellable (or_fault (address_of address) field.BadAddress) _
    (λ a. left IsSpellable (fault_if (is_reserved a) field.ReservedAddress) _ (λ u. named_spelled a name message))

-- the pages of records
abbrev AreSpellable : List Page → Type 0
AreSpellable = All IsSpellable

with_spelled : (r : Result Page FieldFault) (ps : List Page) → IfOk r IsSpellable → AreSpellable ps → AreSpellable (with_page (of_record r) ps)
with_spelled (Ok p) ps first more = All-cons IsSpellable p ps first more
with_spelled (Err e) ps first more = more

rows_spelled : (rows : List Row) → AreSpellable (pages_of rows)
unfolding pages_of page_of
rows_spelled [] = All-nil IsSpellable
rows_spelled ([] ∷ rows) = rows_spelled rows
rows_spelled ((a ∷ []) ∷ rows) = rows_spelled rows
rows_spelled ((a ∷ k ∷ []) ∷ rows) = rows_spelled rows
rows_spelled ((a ∷ k ∷ m ∷ []) ∷ rows) = with_spelled (page_of_fields a k m) (pages_of rows) (fields_spelled a k m) (rows_spelled rows)
rows_spelled ((a ∷ k ∷ m ∷ n ∷ more) ∷ rows) = rows_spelled rows

some_spelled : (ps : List Page) → AreSpellable ps → IfOk (unless_empty ps) AreSpellable
some_spelled [] all = tt
some_spelled (p ∷ ps) all = all

unless_spelled : (o : Option RoundFault) (rows : List Row) → IfOk (pages_unless o rows) AreSpellable
unless_spelled (Some f) rows = tt
unless_spelled None rows = some_spelled (pages_of rows) (rows_spelled rows)

pages_spelled : (may_wait : Bool) (rows : List Row) → IfOk (pages_of_rows may_wait rows) AreSpellable
unfolding pages_of_rows
pages_spelled may_wait rows = unless_spelled (first_fault may_wait [] rows) rows

-- what holds of the pages of all records behind a header holds of the pages of all files
module _ (P : List Page → Type 0) (may_wait : Bool) (each : (rows : List Row) → IfOk (pages_of_rows may_wait rows) P) where
  behind_header : (t : Bool) (rows : List Row) → IfOk (cond t (pages_of_rows may_wait rows) (Err fault.BadHeader)) P
  behind_header true rows = each rows
  behind_header false rows = tt

  of_rows : (t : Bool) (rows : List Row) → IfOk (cond t (Err fault.TooLarge) (pages_of_all_rows may_wait rows)) P
  unfolding pages_of_all_rows
  of_rows true rows = tt
  of_rows false [] = tt
  of_rows false (header ∷ rows) = behind_header (is_header header) rows

  pub of_files : (file : List ℕ) → IfOk (held_pages may_wait file) P
  unfolding held_pages
  of_files file = of_rows _ _

-- what holds of the value, where there is one, holds of that value
pub value_of : {A E : Type 0} (P : A → Type 0) (r : Result A E) (a : A) → IfOk r P → r ≡ Ok a → P a
value_of P r a all e = subst (λ s. IfOk s P) e all

pub page_spellable : (address name message : List ℕ) (p : Page) → page_of_fields address name message ≡ Ok p → IsSpellable p
page_spellable address name message p e = value_of IsSpellable _ p (fields_spelled address name message) e

pub pages_spellable : (may_wait : Bool) (file : List ℕ) (ps : List Page) → held_pages may_wait file ≡ Ok ps → All IsSpellable ps
pages_spellable may_wait file ps e = value_of AreSpellable _ ps (of_files AreSpellable may_wait (pages_spelled may_wait) file) e
