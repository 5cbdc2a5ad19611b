-- *Crash model*: what a crash may leave of a journal on its disk, and what the next start reads that as (this project's own).
use Rattle.std.specs.Prelude.{◌≡◌, ◌⊎◌, ℕ, ◌≤◌, List, [], ◌++◌, length, take}
use Rattle.pocsag_pages.specs.PageFile.{Row}
use Rattle.pocsag_pages.specs.declared.page.Page.{Page}
use Rattle.pocsag_journal.specs.Runs.{IsRun}
use Rattle.pocsag_journal.specs.LineTexts.{HasNoLineFeed}
use Rattle.pocsag_journal.specs.Journals.{IsRead, journal_limit}

-- *Torn line*: what a crash may leave where a line was being written behind old bytes. Behind these is a front of the line, or
-- as many bytes at most, whatever they are, but no line feed. So the line feed of a line is never on the disk before all the
-- line is.
pub record IsTorn (line old left : List ℕ) : Type 0 where
  pub part : List ℕ
  pub parts : left ≡ old ++ part
  pub few : length part ≤ length line
  pub kind : (part ≡ take (length part) line) ⊎ HasNoLineFeed part

-- *Restart*: a start reads the bytes as edits, each accepted in its turn, which lead from no pages to these.
pub record RestartsAs (bytes : List ℕ) (pages : List Page) : Type 0 where
  pub rows : List Row
  pub torn : List ℕ
  pub read : IsRead bytes rows torn
  pub run : IsRun rows [] pages
  pub few : length bytes ≤ journal_limit
