-- Why a journal is not read or written, and when.
use Rattle.std.specs.Prelude.{◌≡◌, ℕ, ◌+◌, ◌<◌, List, [], ◌∷◌, ◌++◌, length}
use Rattle.csv.specs.Writing.{default_writer, row_text}
use Rattle.pocsag_words.specs.Devices.{HasFailed}
use Rattle.pocsag_pages.specs.declared.page.Page.{Page}
use Rattle.pocsag_journal.specs.declared.fault.JournalFault.{JournalFault}
use Rattle.pocsag_journal.specs.declared.fault.JournalFault.TheVariants as fault
use Rattle.pocsag_journal.specs.Journals.{AddsLine, IsBadLine, IsBegun, NamesFormat, add_record, journal_limit}

-- What is reported of bytes that are no journal: that they do not begin as one, or only as one of another version, or the line
-- that is none of one. Memory may be wanting.
abbrev pub IsPrinted : List ℕ → JournalFault → Type 0
IsPrinted bytes fault.NotJournal = ¬ IsBegun bytes × ¬ NamesFormat bytes
IsPrinted bytes fault.OtherVersion = ¬ IsBegun bytes × NamesFormat bytes
IsPrinted bytes (fault.BadLine n) = IsBadLine bytes n
IsPrinted bytes fault.OutOfMemory = Unit {0}
IsPrinted bytes _ = ⊥

-- Why a journal is not read: a read failed, between these two counts of failures, or it has more bytes than are read, or what
-- is reported of its bytes.
abbrev pub ExplainsReplay : List ℕ → (failures_before failures_after : ℕ) → JournalFault → Type 0
ExplainsReplay bytes before after fault.ReadFault = HasFailed before after
ExplainsReplay bytes before after fault.TooLarge = journal_limit < length bytes
ExplainsReplay bytes before after f = IsPrinted bytes f

-- Why a journal is not listed: the same, or a write failed.
abbrev pub ExplainsListing : List ℕ → (reads_before reads_after writes_before writes_after : ℕ) → JournalFault → Type 0
ExplainsListing bytes before after writes_before writes_after fault.WriteFault = HasFailed writes_before writes_after
ExplainsListing bytes before after writes_before writes_after f = ExplainsReplay bytes before after f

-- What is reported of bytes that are a journal: the source or memory fails, or it is too large.
abbrev pub IsPrintedOf : JournalFault → Type 0
IsPrintedOf fault.NotJournal = ⊥
IsPrintedOf fault.OtherVersion = ⊥
IsPrintedOf (fault.BadLine n) = ⊥
IsPrintedOf (fault.NoLine n) = ⊥
IsPrintedOf fault.WriteFault = ⊥
IsPrintedOf _ = Unit {0}

-- The record of the page, as a page file spells it, is no line that adds it behind these pages.
abbrev pub IsUnspelled : (before : List Page) → Page → Type 0
IsUnspelled before page = ¬ AddsLine (row_text default_writer (add_record page)) before page (before ++ page ∷ [])

-- No line of a journal adds the page of this number, from 1, behind the pages before it.
pub record HasNoLine (pages : List Page) (number : ℕ) : Type 0 where
  pub before : List Page
  pub page : Page
  pub rest : List Page
  pub parts : pages ≡ before ++ page ∷ rest
  pub place : number ≡ length before + 1
  pub none : IsUnspelled before page

-- Why there is no text of the pages: one has no line, or memory was wanting.
abbrev pub ExplainsText : List Page → JournalFault → Type 0
ExplainsText pages (fault.NoLine n) = HasNoLine pages n
ExplainsText pages fault.OutOfMemory = Unit {0}
ExplainsText pages _ = ⊥

-- Why a journal of the pages is not written: the same, or the disk failed, between these two counts of failures.
abbrev pub ExplainsAnew : List Page → (failures_before failures_after : ℕ) → JournalFault → Type 0
ExplainsAnew pages before after fault.WriteFault = HasFailed before after
ExplainsAnew pages before after f = ExplainsText pages f
