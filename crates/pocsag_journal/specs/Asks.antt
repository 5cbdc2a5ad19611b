-- What a line of an open round that edits nothing asks for by its record (this project's own).
use Rattle.std.specs.Prelude.{◌≡◌, ◌≢◌, ◌⊎◌, ℕ, List, [], ◌∷◌, length, codes, Option, Some, None}
use Rattle.std.specs.Str.{IsUtf8}
use Rattle.csv.specs.Records.{field_at}
use Rattle.pocsag_words.specs.declared.ending.End.{End}
use Rattle.pocsag_words.specs.declared.ending.End.TheVariants as ends
use Rattle.pocsag_pages.specs.PageFile.{Row}
use Rattle.pocsag_journal.specs.Edited.{SpellsCount}
use Rattle.pocsag_journal.specs.Runs.{first_record}
use Rattle.pocsag_journal.specs.declared.edits.Line.{Line}
use Rattle.pocsag_journal.specs.declared.edits.Line.TheVariants as line

-- The record of the line that asks for the list.
abbrev pub list_record : Row
list_record = codes "list" ∷ []

-- The word by which a line names an end.
abbrev pub end_word : End → List ℕ
end_word ends.Open = codes "open"
end_word ends.Closed = codes "closed"
end_word ends.Idle = codes "idle"

-- The record asks for a plan for the end, which goes to two places: `plan,TX,CERT` and the word of the end, or without a
-- word for the open end; or with a number behind the end, for that of the longest front that so many batches carry.
abbrev pub AsksPlan : End → (at_most : Option ℕ) → (tx cert : List ℕ) → Row → Type 0
AsksPlan end (Some batches) tx cert row =
    (count : List ℕ) × SpellsCount count batches × (row ≡ codes "plan" ∷ tx ∷ cert ∷ end_word end ∷ count ∷ [])
AsksPlan end None tx cert row =
    (row ≡ codes "plan" ∷ tx ∷ cert ∷ end_word end ∷ []) ⊎ ((end ≡ ends.Open) × (row ≡ codes "plan" ∷ tx ∷ cert ∷ []))

-- So many fields has the record of a plan for the end, the fourth is the word of the end, and the fifth the number of batches.
abbrev pub IsPlanEnd : End → (at_most : Option ℕ) → Row → Type 0
IsPlanEnd end (Some batches) row =
    (length row ≡ 5) × (Some (end_word end) ≡ field_at row 3)
    × ((count : List ℕ) × (Some count ≡ field_at row 4) × SpellsCount count batches)
IsPlanEnd end None row =
    ((length row ≡ 3) × (end ≡ ends.Open)) ⊎ ((length row ≡ 4) × (Some (end_word end) ≡ field_at row 3))

-- The record asks for no plan whose places are texts.
abbrev pub AsksNoPlan : Row → Type 0
AsksNoPlan row = (end : End) (at_most : Option ℕ) (tx cert : List ℕ) → AsksPlan end at_most tx cert row → IsUtf8 tx → IsUtf8 cert → ⊥

-- The record asks neither for the list nor for what the first line of a journal asks for, and for no plan.
pub record AsksNone (row : Row) : Type 0 where
  pub list : row ≢ list_record
  pub heading : row ≢ first_record
  pub plan : AsksNoPlan row

-- What a line that edits nothing asks for by its record.
abbrev pub IsAskedBy : Line → Row → Type 0
IsAskedBy line.List row = row ≡ list_record
IsAskedBy line.Journal row = row ≡ first_record
IsAskedBy (line.Plan tx cert end at_most) row = AsksPlan end at_most tx.now cert.now row
IsAskedBy _ row = AsksNone row

abbrev pub IsAskedIn : Option Line → Row → Type 0
IsAskedIn None row = AsksNone row
IsAskedIn (Some asking) row = IsAskedBy asking row
