-- *Journal*: the text that an open round is kept in, and what bytes read as (the format is this project's own).
use Rattle.std.specs.Prelude.{◌≡◌, ◌≢◌, ◌⊎◌, ℕ, ◌+◌, Bool, true, false, List, [], ◌∷◌, ◌++◌, length, codes}
use Rattle.std.specs.List.{AllByRecursion}
use Rattle.csv.specs.Writing.{default_writer, row_text}
use Rattle.pocsag_pages.specs.PageFile.{Row}
use Rattle.pocsag_pages.specs.declared.page.Page.{Page}
use Rattle.pocsag_decode.specs.PageFiles.{page_record}
use Rattle.pocsag_journal.specs.LineTexts.{HasNoLineFeed, IsWholeLine}
use Rattle.pocsag_journal.specs.Runs.{IsEdit, IsRun, first_record}

-- The most bytes of a journal that is read.
abbrev pub journal_limit : ℕ
journal_limit = 1073741824

-- The text of records, each as csv writes it.
unfoldable pub rows_text : List Row → List ℕ
rows_text [] = []
rows_text (row ∷ rows) = row_text default_writer row ++ rows_text rows

-- *Journal text*: the first record, and then those of the edits.
abbrev pub journal_text : List Row → List ℕ
journal_text rows = row_text default_writer first_record ++ rows_text rows

-- The record has a field, and its text is one line.
pub record IsLine (row : Row) : Type 0 where
  pub some : row ≢ []
  pub line : IsWholeLine (row_text default_writer row)

-- The bytes are a part of the first line: it goes on behind them.
abbrev pub IsFirstCut : List ℕ → Type 0
IsFirstCut bytes = (rest : List ℕ) × (rest ≢ []) × (bytes ++ rest ≡ row_text default_writer first_record)

-- The bytes begin with the first line, or are a part of it.
abbrev pub IsBegun : List ℕ → Type 0
IsBegun bytes = ((rest : List ℕ) × (bytes ≡ row_text default_writer first_record ++ rest)) ⊎ IsFirstCut bytes

-- The bytes begin as the first line of each version does.
abbrev pub NamesFormat : List ℕ → Type 0
NamesFormat bytes = (rest : List ℕ) × (bytes ≡ codes "pocsag journal," ++ rest)

-- *Reading*: the bytes are the journal text of these records, each one line, and a torn end without a line feed. Where
-- they are only a part of the first line, there are no records, and all of it is the torn end.
pub record IsRead (bytes : List ℕ) (rows : List Row) (torn : List ℕ) : Type 0 where
  pub parts : (bytes ≡ journal_text rows ++ torn) ⊎ ((rows ≡ []) × (bytes ≡ torn) × IsFirstCut bytes)
  pub each : AllByRecursion IsLine rows
  pub end : HasNoLineFeed torn

-- The bytes read as so many edits, each accepted in its turn, which lead from no pages to these, and a torn end of so
-- many bytes.
pub record Replays (bytes : List ℕ) (edits torn : ℕ) (pages : List Page) : Type 0 where
  pub rows : List Row
  pub rest : List ℕ
  pub read : IsRead bytes rows rest
  pub run : IsRun rows [] pages
  pub as_many : edits ≡ length rows
  pub cut : torn ≡ length rest

-- The line of this number, from 1, stands behind the first and behind edits, each accepted in its turn. It is whole, and it is
-- the text of no edit that the pages before it accept.
pub record IsBadLine (bytes : List ℕ) (number : ℕ) : Type 0 where
  pub rows : List Row
  pub pages : List Page
  pub line : List ℕ
  pub rest : List ℕ
  pub each : AllByRecursion IsLine rows
  pub run : IsRun rows [] pages
  pub whole : IsWholeLine line
  pub parts : bytes ≡ journal_text rows ++ line ++ rest
  pub bad : (row : Row) (after : List Page) → row_text default_writer row ≡ line → ¬ IsEdit row pages after
  pub place : number ≡ length rows + 2

-- The line is made: it is the text of an edit that these pages accept and that leaves those. Otherwise it is that of none.
abbrev pub MakesLine : Bool → (line : List ℕ) → (before after : List Page) → Type 0
MakesLine true line before after = (row : Row) × (row ≢ []) × (row_text default_writer row ≡ line) × IsEdit row before after
MakesLine false line before after = (row : Row) (other : List Page) → row_text default_writer row ≡ line → ¬ IsEdit row before other

-- What is read is this list, these edits and this end.
abbrev pub ReplaysAs : (read : List Page) → (edits torn : ℕ) → List Page → List Row → (rest : List ℕ) → Type 0
ReplaysAs read edits torn pages rows rest = (read ≡ pages) × (edits ≡ length rows) × (torn ≡ length rest)

-- The bytes read as the first of the records, and a torn end.
pub record ReadsFirst (bytes : List ℕ) (rows : List Row) : Type 0 where
  pub firsts : List Row
  pub left : List Row
  pub torn : List ℕ
  pub parts : rows ≡ firsts ++ left
  pub read : IsRead bytes firsts torn

-- A record that adds a page.
pub record IsAdd (row : Row) : Type 0 where
  pub address : List ℕ
  pub kind : List ℕ
  pub message : List ℕ
  pub fields : row ≡ codes "add" ∷ address ∷ kind ∷ message ∷ []

-- The record that adds a page, as a page file spells it.
abbrev pub add_record : Page → Row
add_record page = codes "add" ∷ page_record page

-- The line is the text of a record that adds this page behind the others.
pub record AddsLine (line : List ℕ) (before : List Page) (page : Page) (after : List Page) : Type 0 where
  pub row : Row
  pub adds : IsAdd row
  pub one : IsLine row
  pub text : row_text default_writer row ≡ line
  pub edit : IsEdit row before after
  pub behind : after ≡ before ++ page ∷ []

-- Behind a text stands such a line more.
abbrev pub PutsLine : (text later : List ℕ) (before : List Page) → Page → (after : List Page) → Type 0
PutsLine text later before page after = (line : List ℕ) × AddsLine line before page after × (later ≡ text ++ line)

-- The bytes are the journal text of a run that leads from no pages to these.
pub record Represents (bytes : List ℕ) (pages : List Page) : Type 0 where
  pub rows : List Row
  pub text : bytes ≡ journal_text rows
  pub each : AllByRecursion IsLine rows
  pub run : IsRun rows [] pages

-- *Written anew*: the same, and each record adds a page.
pub record ListsPages (bytes : List ℕ) (pages : List Page) : Type 0 where
  pub stands : Represents bytes pages
  pub adds : AllByRecursion IsAdd stands.rows
