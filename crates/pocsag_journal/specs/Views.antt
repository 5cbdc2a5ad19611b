-- What contracts see of a journal.
use Rattle.std.specs.Prelude.{◌≡◌, ℕ, ◌≤◌, List, length}
use Rattle.pocsag_pages.specs.declared.page.Page.{Page}
use Rattle.pocsag_journal.specs.Moments.{IsSafe}
use Rattle.pocsag_journal.specs.Journals.{Represents, journal_limit}
use Rattle.pocsag_journal.specs.declared.journal.Journal.{Journal}

-- The disk that it is on.
abbrev pub disk_of : {D : Type 0} → Journal D → D
disk_of journal = journal.disk

-- How many bytes it has by its own count.
abbrev pub journal_length : {D : Type 0} → Journal D → ℕ
journal_length journal = journal.sizes.len

-- How many it had when what its pages need was counted last.
abbrev pub counted_of : {D : Type 0} → Journal D → ℕ
counted_of journal = journal.sizes.counted

-- The journal has what the disk holds, by its own count, and no more than is read.
pub record IsMeasured {D : Type 0} (journal : Journal D) (held : List ℕ) : Type 0 where
  pub all : journal_length journal ≡ length held
  pub readable : length held ≤ journal_limit

-- What the disk holds stands for the pages, can be read again, and no crash takes any of it away.
pub record IsHeld {D : Type 0} (journal : Journal D) (held : List ℕ) (may_leave : List ℕ → Type 0) (pages : List Page) : Type 0 where
  pub stands : Represents held pages
  pub counted : IsMeasured journal held
  pub safe : IsSafe held may_leave
