-- The lines of bytes (this project's own).
use Rattle.std.specs.Prelude.{◌≡◌, ◌≢◌, ◌⊎◌, ℕ, ◌<◌, ◌≤◌, List, [], ◌∷◌, ◌++◌, length, Option, Some, None}
use Rattle.csv.specs.Machine.{line_feed}
use Rattle.pocsag_journal.specs.LineTexts.{HasNoLineFeed}
use Rattle.pocsag_open.specs.declared.lines.LineRead.{LineRead}
use Rattle.pocsag_open.specs.declared.lines.LineRead.TheVariants as found

-- The most bytes of a line that is kept, its line feed not counted.
abbrev pub line_limit : ℕ
line_limit = 65536

-- The first line of bytes is what stands before their first line feed, and the rest is what stands behind it. Where there
-- is none, all the bytes are the line, unless there are no bytes, and nothing is left.
pub record IsFirstLine (bytes line rest : List ℕ) : Type 0 where
  pub one : HasNoLineFeed line
  pub parts : (bytes ≡ line ++ line_feed ∷ rest) ⊎ ((line ≢ []) × (bytes ≡ line) × (rest ≡ []))

-- *Lines*: the bytes are these lines, one after another, and no more.
unfoldable pub AreLines : (lines : List (List ℕ)) (bytes : List ℕ) → Type 0
AreLines [] bytes = bytes ≡ []
AreLines (line ∷ lines) bytes = (rest : List ℕ) × IsFirstLine bytes line rest × AreLines lines rest

-- What came of the next line: it is kept, or it has too many bytes, and what is left begins behind it; or nothing is left.
abbrev pub IsLineFound : LineRead → (pending kept rest : List ℕ) → Type 0
IsLineFound found.Kept pending kept rest = IsFirstLine pending kept rest × (length kept ≤ line_limit)
IsLineFound found.TooLong pending kept rest = (line : List ℕ) × IsFirstLine pending line rest × (line_limit < length line)
IsLineFound found.End pending kept rest = pending ≡ []

-- The next byte of what is left, if there is one.
abbrev pub IsNextByte : Option ℕ → (pending rest : List ℕ) → Type 0
IsNextByte None pending rest = (pending ≡ []) × (rest ≡ [])
IsNextByte (Some byte) pending rest = pending ≡ byte ∷ rest

-- One byte more of a line: it is kept behind the others, or there are as many as may be.
abbrev pub IsByteKept : LineRead → ℕ → (before after : List ℕ) → Type 0
IsByteKept found.Kept byte before after = (length before < line_limit) × (after ≡ before ++ byte ∷ [])
IsByteKept found.TooLong byte before after = (line_limit ≤ length before) × (after ≡ before)
IsByteKept found.End byte before after = ⊥

-- How much of a line was seen, none of it a line feed, and what is kept of it.
abbrev pub IsSeen : LineRead → (seen kept : List ℕ) → Type 0
IsSeen found.End seen kept = (seen ≡ []) × (kept ≡ [])
IsSeen found.Kept seen kept = (seen ≢ []) × (kept ≡ seen) × (length seen ≤ line_limit)
IsSeen found.TooLong seen kept = (line_limit ≤ length kept) × (line_limit < length seen)
