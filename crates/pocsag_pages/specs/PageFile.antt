-- *Verdict of a page file*: the round that a file holds, or its first fault (the format is this
-- project's own).
use Rattle.std.specs.Prelude.{◌==◌, ◌&&◌, ◌||◌, ℕ, ◌+◌, ◌-◌, ◌*◌, List, [], ◌∷◌, ◌++◌, length, Bool, true, false, nat_lt, nat_le, if◌then◌else◌, Option, Some, None, Result, Ok, Err, codes}
use Rattle.std.specs.Char.{is_ascii_digit}
use Rattle.std.specs.Str.{bytes_eq}
use Rattle.csv.specs.Reading.{default_config, records, strip_bom}
use Rattle.pocsag_words.specs.Frame.{input_limit}
use Rattle.pocsag_text.specs.declared.fault.TextFault.{TextFault}
use Rattle.pocsag_text.specs.declared.fault.TextFault.TheVariants as text
use Rattle.pocsag_text.specs.Text.{numeric_payload, alpha_payload}
use Rattle.pocsag_pages.specs.declared.page.Page.{Page}
use Rattle.pocsag_pages.specs.declared.record.PageKind.{PageKind}
use Rattle.pocsag_pages.specs.declared.record.PageKind.TheVariants as kind
use Rattle.pocsag_pages.specs.declared.fault.FieldFault.{FieldFault}
use Rattle.pocsag_pages.specs.declared.fault.FieldFault.TheVariants as field
use Rattle.pocsag_pages.specs.declared.fault.RecordFault.{RecordFault}
use Rattle.pocsag_pages.specs.declared.fault.RecordFault.TheVariants as wrong
use Rattle.pocsag_pages.specs.declared.fault.WholeFault.{WholeFault}
use Rattle.pocsag_pages.specs.declared.fault.WholeFault.TheVariants as whole
use Rattle.pocsag_pages.specs.declared.fault.RoundFault.{RoundFault}
use Rattle.pocsag_pages.specs.declared.fault.RoundFault.TheVariants as fault
use Rattle.pocsag_pages.specs.Pages.{last_address, page_limit, is_reserved, has_address}
use Rattle.pocsag_pages.specs.PageList.{or_else, unless_empty}

-- The fields of one record.
abbrev pub Row : Type 0
Row = List (List ℕ)

infixl 10 ◌>>=◌
abbrev pub ◌>>=◌ : {A B E : Type 0} → Result A E → (A → Result B E) → Result B E
Ok a >>= f = f a
Err e >>= f = Err e

-- The value, or the fault where there is none.
abbrev pub or_fault : {A : Type 0} → Option A → FieldFault → Result A FieldFault
or_fault None e = Err e
or_fault (Some a) e = Ok a

-- Nothing, or the fault where a rule is broken.
abbrev pub fault_if : Bool → FieldFault → Result (Unit {0}) FieldFault
fault_if broken e = if broken then Err e else Ok tt

-- The value of decimal digits that follow those of a value; none where a byte is no digit.
unfoldable pub decimal : ℕ → List ℕ → Option ℕ
decimal value [] = Some value
decimal value (b ∷ bytes) = if is_ascii_digit b then decimal (10 * value + (b - 48)) bytes else None

-- The number, if it is at most the limit.
abbrev pub at_most : ℕ → Option ℕ → Option ℕ
at_most limit None = None
at_most limit (Some n) = if nat_le n limit then Some n else None

-- The most digits of an address.
abbrev pub address_digits : ℕ
address_digits = 7

-- The address that a field spells, in one to seven digits.
unfoldable pub address_of : List ℕ → Option ℕ
address_of field =
    if (length field == 0) || nat_lt address_digits (length field) then None else at_most last_address (decimal 0 field)

-- The kind of page that a field names.
unfoldable pub kind_of_field : List ℕ → Option PageKind
kind_of_field field =
    if bytes_eq field (codes "tone0") then Some (kind.Tone 0)
    else if bytes_eq field (codes "tone1") then Some (kind.Tone 1)
    else if bytes_eq field (codes "tone2") then Some (kind.Tone 2)
    else if bytes_eq field (codes "tone3") then Some (kind.Tone 3)
    else if bytes_eq field (codes "numeric") then Some kind.Numeric
    else if bytes_eq field (codes "alpha") then Some kind.Alpha
    else None

-- The function of a kind: numeric messages have 0 and alphanumeric ones 3, as the Recommendation
-- pairs them.
abbrev pub function_of : PageKind → ℕ
function_of (kind.Tone function) = function
function_of kind.Numeric = 0
function_of kind.Alpha = 3

-- A kind that has no message.
abbrev pub IsTone : PageKind → Type 0
IsTone (kind.Tone function) = Unit {0}
IsTone kind.Numeric = ⊥
IsTone kind.Alpha = ⊥

-- A text's fault as that of a field. No text has the last one, which is reported of a packing alone.
abbrev pub field_fault_of : TextFault → FieldFault
field_fault_of text.EmptyMessage = field.EmptyMessage
field_fault_of (text.BadCharacter place) = field.BadCharacter place
field_fault_of text.TooLong = field.TooLong
field_fault_of text.OutOfMemory = field.OutOfMemory

-- A text's payload, or its fault.
abbrev pub of_text : Result (List ℕ) TextFault → Result (List ℕ) FieldFault
of_text (Ok items) = Ok items
of_text (Err e) = Err (field_fault_of e)

-- The payload of a page's message.
unfoldable pub payload_of : PageKind → List ℕ → Result (List ℕ) FieldFault
payload_of (kind.Tone function) message = if length message == 0 then Ok [] else Err field.MessageForTone
payload_of kind.Numeric message = of_text (numeric_payload message)
payload_of kind.Alpha message = of_text (alpha_payload message)

-- The page of three fields, or their first fault.
unfoldable pub page_of_fields : (address_field kind_field message : List ℕ) → Result Page FieldFault
page_of_fields address_field kind_field message = do
  address ← or_fault (address_of address_field) field.BadAddress
  _ ← fault_if (is_reserved address) field.ReservedAddress
  its_kind ← or_fault (kind_of_field kind_field) field.BadKind
  payload ← payload_of its_kind message
  Ok (record { address = address; function = function_of its_kind; payload = payload })

-- Why a reader's bytes were not read whole, as a fault of the page file that it holds.
abbrev pub round_fault_of : WholeFault → RoundFault
round_fault_of whole.ReadFault = fault.ReadFault
round_fault_of whole.TooLarge = fault.TooLarge
round_fault_of whole.OutOfMemory = fault.OutOfMemory

-- A page of three fields as that of their record, or their fault.
abbrev pub of_record : Result Page FieldFault → Result Page RecordFault
of_record (Ok p) = Ok p
of_record (Err e) = Err (wrong.Field e)

-- The page of a record, or its first fault, other records aside.
unfoldable pub page_of : Row → Result Page RecordFault
page_of (address_field ∷ kind_field ∷ message ∷ []) = of_record (page_of_fields address_field kind_field message)
page_of _ = Err wrong.FieldCount

abbrev pub with_page : Result Page RecordFault → List Page → List Page
with_page (Ok p) ps = p ∷ ps
with_page (Err e) ps = ps

-- The pages of records, in order; a record with a fault has none.
unfoldable pub pages_of : List Row → List Page
pages_of [] = []
pages_of (r ∷ rows) = with_page (page_of r) (pages_of rows)

-- The fault of a record after so many others with these pages: its own first, then a page that has
-- its address, and then that it is one too many.
abbrev pub fault_after : (count : ℕ) → List Page → Result Page RecordFault → Option RecordFault
fault_after count earlier (Err e) = Some e
fault_after count earlier (Ok p) =
    if has_address earlier p.address then Some wrong.DuplicateAddress
    else if nat_le page_limit count then Some wrong.TooManyPages else None

-- The earlier pages whose addresses are taken: where pages may wait for earlier ones of their address, those of none.
abbrev pub in_the_way : (may_wait : Bool) → List Page → List Page
in_the_way true earlier = []
in_the_way false earlier = earlier

-- The fault of a record after others.
unfoldable pub fault_of_row : (may_wait : Bool) (before : List Row) → Row → Option RecordFault
fault_of_row may_wait before r = fault_after (length before) (in_the_way may_wait (pages_of before)) (page_of r)

-- The fault of the record of this number. Want of memory, which is reported of a packing alone, names no record.
abbrev pub numbered : ℕ → RecordFault → RoundFault
numbered n (wrong.Field field.OutOfMemory) = fault.OutOfMemory
numbered n e = fault.Record n e

abbrev pub numbered_if : ℕ → Option RecordFault → Option RoundFault
numbered_if n None = None
numbered_if n (Some e) = Some (numbered n e)

-- The fault of the least record that has one, of records that follow these.
unfoldable pub first_fault : (may_wait : Bool) (before rows : List Row) → Option RoundFault
first_fault may_wait before [] = None
first_fault may_wait before (r ∷ rows) =
    or_else (numbered_if (length before + 1) (fault_of_row may_wait before r)) (first_fault may_wait (before ++ r ∷ []) rows)

-- The pages of records, by the first fault among these, if there is one.
abbrev pub pages_unless : Option RoundFault → List Row → Result (List Page) RoundFault
pages_unless (Some f) rows = Err f
pages_unless None rows = unless_empty (pages_of rows)

-- The pages of the records after the header, or their first fault.
unfoldable pub pages_of_rows : (may_wait : Bool) → List Row → Result (List Page) RoundFault
pages_of_rows may_wait rows = pages_unless (first_fault may_wait [] rows) rows

-- The header, exactly.
unfoldable pub is_header : Row → Bool
is_header (a ∷ k ∷ m ∷ []) = bytes_eq a (codes "address") && bytes_eq k (codes "kind") && bytes_eq m (codes "message")
is_header _ = false

-- The pages of all the records of a file, of which the first is the header.
unfoldable pub pages_of_all_rows : (may_wait : Bool) → List Row → Result (List Page) RoundFault
pages_of_all_rows may_wait [] = Err fault.BadHeader
pages_of_all_rows may_wait (header ∷ rows) = if is_header header then pages_of_rows may_wait rows else Err fault.BadHeader

-- The records that csv gives for the bytes.
abbrev pub rows_of : List ℕ → List Row
rows_of bytes = records default_config (strip_bom bytes)

-- The record, where there is one and no more.
abbrev pub only_row : List Row → Option Row
only_row [] = None
only_row (r ∷ []) = Some r
only_row (r ∷ s ∷ rows) = None

-- The pages that a page file holds, or its first fault. Where pages may wait for earlier ones of their address, an address may
-- come again.
unfoldable pub held_pages : (may_wait : Bool) → List ℕ → Result (List Page) RoundFault
held_pages may_wait bytes =
    if nat_lt input_limit (length bytes) then Err fault.TooLarge else pages_of_all_rows may_wait (rows_of bytes)

-- *Verdict of a page file*.
abbrev pub verdict : List ℕ → Result (List Page) RoundFault
verdict bytes = held_pages false bytes
