-- *Quotes of a page file*: where they stand as CSV has it, and the first that does not (this project's own).
use Rattle.std.specs.Prelude.{◌≡◌, ◌≢◌, ◌⊎◌, ℕ, ◌+◌, ◌==◌, ◌||◌, Bool, true, false, if◌then◌else◌, List, [], ◌∷◌, ◌++◌}
use Rattle.csv.specs.Machine.{carriage_return, line_feed}
use Rattle.csv.specs.Reading.{strip_bom}
use Rattle.csv.specs.Writing.{comma, default_writer, escaped, quote_mark}
use Rattle.pocsag_pages.specs.declared.fault.QuoteFault.{QuoteFault}
use Rattle.pocsag_pages.specs.declared.fault.QuoteFault.TheVariants.{Followed, Inside, Unclosed}
use Rattle.pocsag_pages.specs.RecordTexts.{IsLostAt, IsRowText}

-- What is read of a file: its bytes, those behind a byte order mark where it begins with one.
abbrev pub text_of_file : List ℕ → List ℕ
text_of_file file = strip_bom file

-- Whether the byte ends a line: a carriage return or a line feed.
abbrev pub ends_line : ℕ → Bool
ends_line b = b == carriage_return || (b == line_feed)

-- So many records, each the text of one and the end of a line. Empty lines are no records.
pub data AreRecords : (number : ℕ) (bytes : List ℕ) → Type 0 where
  none : AreRecords 0 []
  blank : {number : ℕ} (bytes : List ℕ) (b : ℕ) → AreRecords number bytes → ends_line b ≡ true → AreRecords number (bytes ++ b ∷ [])
  more : (number : ℕ) (bytes text : List ℕ) (b : ℕ) (fields : List (List ℕ)) → AreRecords number bytes → IsRowText fields text →
      text ≢ [] → ends_line b ≡ true → AreRecords (number + 1) (bytes ++ (text ++ b ∷ []))

-- The line in which the byte behind these stands; lines count from 1.
unfoldable pub line_behind : List ℕ → ℕ
line_behind [] = 1
line_behind (b ∷ bytes) = if b == line_feed then line_behind bytes + 1 else line_behind bytes

-- *Well quoted*: whole records, and behind the last end of a line nothing, or the text of one record more.
pub record IsWellQuoted (text : List ℕ) : Type 0 where
  pub number : ℕ
  pub before : List ℕ
  pub last : List ℕ
  pub parts : text ≡ before ++ last
  pub records : AreRecords number before
  pub fields : List (List ℕ)
  pub ends : IsRowText fields last

-- Behind so many records the text of the next one is lost at this byte, which stands in this line and does not end it.
pub record IsLostIn (text : List ℕ) (number line byte : ℕ) : Type 0 where
  pub before : List ℕ
  pub behind : List ℕ
  pub parts : text ≡ before ++ behind
  pub records : AreRecords number before
  pub front : List ℕ
  pub lost : IsLostAt behind front byte
  pub goes_on : ends_line byte ≡ false
  pub place : line ≡ line_behind (before ++ front)

-- A field begins behind this front of a record: the record begins, or a comma stands behind fields.
abbrev pub IsFieldStart : List ℕ → Type 0
IsFieldStart front = (front ≡ []) ⊎ ((text : List ℕ) × ((fields : List (List ℕ)) × IsRowText fields text × (front ≡ text ++ comma ∷ [])))

-- Behind so many records a quote in this line opens a field, and each quote behind it is doubled, so that none closes the field.
pub record IsOpenFrom (text : List ℕ) (number line : ℕ) : Type 0 where
  pub before : List ℕ
  pub front : List ℕ
  pub held : List ℕ
  pub parts : text ≡ before ++ (front ++ quote_mark ∷ escaped default_writer held)
  pub records : AreRecords number before
  pub start : IsFieldStart front
  pub place : line ≡ line_behind (before ++ front)

-- The first quote of a text that does not stand as CSV has it, with the number of its record, the header's 0, and its line: one
-- that is not closed, one inside a field that begins without one, or one that closes a field of which more follows.
abbrev pub HasQuoteFault : List ℕ → QuoteFault → Type 0
HasQuoteFault text (Unclosed number line) = IsOpenFrom text number line
HasQuoteFault text (Inside number line) = IsLostIn text number line quote_mark
HasQuoteFault text (Followed number line) = (byte : ℕ) × (byte ≢ quote_mark) × IsLostIn text number line byte

-- The record of a misplaced quote.
abbrev pub quote_record : QuoteFault → ℕ
quote_record (Unclosed n line) = n
quote_record (Inside n line) = n
quote_record (Followed n line) = n
