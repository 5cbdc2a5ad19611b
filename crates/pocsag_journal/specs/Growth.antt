-- When a journal is written anew, and how long its lines are (this project's own).
use Rattle.std.specs.Prelude.{◌≡◌, ℕ, ◌+◌, ◌*◌, ◌/◌, ◌<◌, ◌≤◌, Bool, true, false, List, length}
use Rattle.pocsag_pages.specs.declared.page.Page.{Page}
use Rattle.pocsag_journal.specs.Journals.{ListsPages}

-- The most bytes of a line, with its line feed.
abbrev pub kept_line_limit : ℕ
kept_line_limit = 8192

-- A journal of at most so many bytes, a megabyte, stays as it is while its round is open.
abbrev pub least_anew : ℕ
least_anew = 1048576

-- A longer one is written anew where it has more than so many times the bytes that its pages need.
abbrev pub times_needed : ℕ
times_needed = 4

-- What its pages need is counted once it has grown by one part in so many since that was counted last.
abbrev pub growth_parts : ℕ
growth_parts = 8

-- A journal of so many bytes, which had `counted` when what its pages need was counted last, is long enough for that to be
-- counted again.
pub record IsDue (counted bytes : ℕ) : Type 0 where
  pub long : least_anew < bytes
  pub grown : counted + counted / growth_parts < bytes

-- *Compacted*: what a journal holds between two edits, and how many bytes it had when what its pages need was counted last.
-- It stays as it is where it is not due, or where it has at most four times the bytes of a text that adds its pages, a line for
-- each; otherwise it is such a text.
pub data IsCompacted (pages : List Page) (counted later : ℕ) (before after : List ℕ) : Type 0 where
  early : ¬ IsDue counted (length before) → after ≡ before → later ≡ counted → IsCompacted pages counted later before after
  small :
      (text : List ℕ) → IsDue counted (length before) → ListsPages text pages → length before ≤ times_needed * length text → after ≡ before →
      later ≡ length before → IsCompacted pages counted later before after
  anew :
      IsDue counted (length before) → times_needed * length after < length before → ListsPages after pages → later ≡ length after →
      IsCompacted pages counted later before after

-- *Put off*: it is due and stays as it is, until it has grown again.
pub record IsPutOff (counted later : ℕ) (before after : List ℕ) : Type 0 where
  pub due : IsDue counted (length before)
  pub same : after ≡ before
  pub counts : later ≡ length before

-- It is compacted, or where that was not done, it is put off.
abbrev pub CompactsAs : Bool → List Page → (counted later : ℕ) → (before after : List ℕ) → Type 0
CompactsAs true pages counted later before after = IsCompacted pages counted later before after
CompactsAs false pages counted later before after = IsPutOff counted later before after
