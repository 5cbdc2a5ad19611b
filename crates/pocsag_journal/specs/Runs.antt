-- Edits as records of CSV, and runs of them (this project's own).
use Rattle.std.specs.Prelude.{◌≡◌, ◌⊎◌, ℕ, ◌<◌, Bool, true, false, if◌then◌else◌, List, [], ◌∷◌, length, codes, Option, Some, None, Ok, Err, IsOk}
use Rattle.std.specs.Fmt.{decimal}
use Rattle.std.specs.Str.{bytes_eq}
use Rattle.pocsag_pages.specs.PageFile.{Row, address_of, page_of_fields}
use Rattle.pocsag_pages.specs.Pages.{has_address}
use Rattle.pocsag_pages.specs.declared.page.Page.{Page}
use Rattle.pocsag_journal.specs.Edited.{IsAdded, IsCancelled, IsSent, SpellsCount}
use Rattle.pocsag_journal.specs.declared.edits.Line.{Line}
use Rattle.pocsag_journal.specs.declared.edits.Line.TheVariants as line
use Rattle.pocsag_journal.specs.declared.refusal.Refusal.{Refusal}
use Rattle.pocsag_journal.specs.declared.refusal.Refusal.TheVariants as refusal
use Rattle.pocsag_pages.specs.declared.fault.FieldFault.TheVariants as field
use Rattle.pocsag_plan.specs.OpenRound.{add_fault, fault_or_memory}
use Rattle.pocsag_plan.specs.declared.refusal.AddFault.TheVariants as adding

-- The first record of a journal: it names the format and its version.
abbrev pub first_record : Row
first_record = codes "pocsag journal" ∷ codes "1" ∷ []

-- What a record asks for that is an edit.
pub data Asked : Type 0 where
  add : (address kind message : List ℕ) → Asked
  cancel : (address : List ℕ) → Asked
  sent : (count : List ℕ) → Asked
  clear : Asked

-- The record of the edit that takes so many first pages out.
abbrev pub sent_record : ℕ → Row
sent_record count = codes "sent" ∷ decimal count ∷ []

-- The edit that a record asks for, if it is one of `add,ADDRESS,KIND,MESSAGE`, `cancel,ADDRESS`, `sent,COUNT` and `clear`.
unfoldable pub asked_of : Row → Option Asked
asked_of (word ∷ []) = if bytes_eq word (codes "clear") then Some clear else None
asked_of (word ∷ field ∷ []) =
    if bytes_eq word (codes "cancel") then Some (cancel field)
    else if bytes_eq word (codes "sent") then Some (sent field) else None
asked_of (word ∷ address ∷ kind ∷ message ∷ []) =
    if bytes_eq word (codes "add") then Some (add address kind message) else None
asked_of _ = None

-- The edit that a line asks for, if it asks for one.
abbrev pub asked_by_line : Line → Option Asked
asked_by_line (line.Add address kind message) = Some (add address.now kind.now message.now)
asked_by_line (line.Cancel address) = Some (cancel address.now)
asked_by_line (line.Sent count) = Some (sent count.now)
asked_by_line line.Clear = Some clear
asked_by_line _ = None

abbrev pub asked_in : Option Line → Option Asked
asked_in None = None
asked_in (Some asking) = asked_by_line asking

-- What an edit does to the pages.
abbrev pub IsDone : Option Asked → (before after : List Page) → Type 0
IsDone None before after = ⊥
IsDone (Some (add address kind message)) before after = IsAdded address kind message before after
IsDone (Some (cancel address)) before after = IsCancelled address before after
IsDone (Some (sent count)) before after = IsSent count before after
IsDone (Some clear) before after = after ≡ []

-- The record is an edit, which is accepted by these pages and leaves those.
abbrev pub IsEdit : Row → (before after : List Page) → Type 0
IsEdit row before after = IsDone (asked_of row) before after

-- *Run*: the records are edits, each accepted in its turn, which lead from these pages to those.
unfoldable pub IsRun : List Row → (before after : List Page) → Type 0
IsRun [] before after = after ≡ before
IsRun (row ∷ rows) before after = (between : List Page) × IsEdit row before between × IsRun rows between after

-- Whether an edit was refused for want of memory.
abbrev pub wants_memory : Refusal → Bool
wants_memory (refusal.Field field.OutOfMemory) = true
wants_memory (refusal.Add adding.OutOfMemory) = true
wants_memory _ = false

-- An edit that is refused for this reason would not be accepted, or memory was wanting.
abbrev pub IsRefusedFor : Row → List Page → Refusal → Type 0
IsRefusedFor row pages why = (wants_memory why ≡ true) ⊎ ((after : List Page) → ¬ IsEdit row pages after)

-- The reason for which an edit is refused: there is no such edit; the fields of an `add` spell no page, or something stands against
-- the page that they spell, or memory was wanting for it; the field of a `cancel` spells no address, or that of no page; or that of a
-- `sent` no count, or that of more pages than there are.
abbrev pub IsReason : Option Asked → List Page → Refusal → Type 0
IsReason None pages why = why ≡ refusal.Unknown
IsReason (Some (add address kind message)) pages (refusal.Field f) =
    ((f ≡ field.OutOfMemory) × IsOk (page_of_fields address kind message)) ⊎ (page_of_fields address kind message ≡ Err f)
IsReason (Some (add address kind message)) pages (refusal.Add f) =
    (page : Page) × (page_of_fields address kind message ≡ Ok page) × (f ≡ fault_or_memory (add_fault pages page))
IsReason (Some (cancel spelling)) pages (refusal.Cancel absent) =
    (address : ℕ) → address_of spelling ≡ Some address → has_address pages address ≡ false
IsReason (Some (sent count)) pages (refusal.Cancel absent) = (n : ℕ) → SpellsCount count n → length pages < n
IsReason _ pages why = ⊥

-- The record is refused as an edit for this reason.
abbrev pub IsReasonFor : Row → List Page → Refusal → Type 0
IsReasonFor row pages why = IsReason (asked_of row) pages why
