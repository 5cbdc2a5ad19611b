-- The front of a file in which its header stands, if it has one.
use Rattle.std.specs.Prelude.{ℕ, suc, ◌+◌, ◌==◌, ◌||◌, Bool, false, List, [], ◌∷◌, if◌then◌else◌, drop, take}
use Rattle.csv.specs.Machine.{carriage_return, line_feed}
use Rattle.pocsag_pages.specs.PageFile.{Row, is_header}

-- How many line ends stand first.
unfoldable pub line_ends_first : List ℕ → ℕ
line_ends_first [] = 0
line_ends_first (c ∷ rest) = if (c == carriage_return) || (c == line_feed) then suc (line_ends_first rest) else 0

-- The front of a file: what may be a byte order mark, the line ends behind it, and 64 bytes.
abbrev pub header_front : List ℕ → List ℕ
header_front file = take (3 + line_ends_first (drop 3 file) + 64) file

-- Whether the first of the records is the header.
abbrev pub starts_with_header : List Row → Bool
starts_with_header [] = false
starts_with_header (r ∷ rows) = is_header r
