-- How a record of CSV may stand in a line, and why a line has none (this project's own).
use Rattle.std.specs.Prelude.{◌≡◌, ◌≢◌, ◌⊎◌, ℕ, ◌-◌, ◌==◌, if◌then◌else◌, List, [], ◌∷◌, ◌++◌, length, take, false, Option, Some, None, Bool, slice_get}
use Rattle.std.specs.List.{AllByRecursion}
use Rattle.csv.specs.Machine.{line_feed}
use Rattle.csv.specs.Reading.{strip_bom}
use Rattle.pocsag_journal.specs.declared.refusal.Refusal.{Refusal}
use Rattle.pocsag_journal.specs.declared.refusal.Refusal.TheVariants as refusal
use Rattle.pocsag_journal.specs.declared.refusal.UndoneFault.TheVariants as undone
use Rattle.pocsag_pages.specs.PageFile.{Row}
use Rattle.pocsag_pages.specs.RecordTexts.{EndsInQuotes, HasNoRecord, HasStrayByte, HasStrayQuote, IsRowText}

-- Why no record was read of a text: it ends in quotes, a quote is out of place, another byte is, or it is empty; or it is that of
-- a record, which there was no memory to read.
abbrev pub IsUnread : (text : List ℕ) → Refusal → Type 0
IsUnread text refusal.InQuotes = HasNoRecord text × EndsInQuotes text
IsUnread text refusal.StrayQuote = HasStrayQuote text
IsUnread text refusal.Unknown = HasStrayByte text ⊎ (text ≡ [])
IsUnread text (refusal.Undone f) = (f ≡ undone.OutOfMemory) × ((row : Row) × IsRowText row text)
IsUnread text _ = ⊥

-- Whether a byte is that of a carriage return.
abbrev pub is_return : Option ℕ → Bool
is_return None = false
is_return (Some b) = b == 13

-- The line without a carriage return at its end.
abbrev pub without_return : List ℕ → List ℕ
without_return line = if is_return (slice_get line (length line - 1)) then take (length line - 1) line else line

-- What a line's record is read from: the line without a carriage return at its end and a byte order mark at its head.
abbrev pub record_text : List ℕ → List ℕ
record_text line = strip_bom (without_return line)

-- No byte is a line feed.
abbrev pub HasNoLineFeed : List ℕ → Type 0
HasNoLineFeed bytes = AllByRecursion (λ b. b ≢ line_feed) bytes

-- Bytes without a line feed, and a line feed.
pub record IsWholeLine (line : List ℕ) : Type 0 where
  pub body : List ℕ
  pub parts : line ≡ body ++ line_feed ∷ []
  pub one : HasNoLineFeed body
