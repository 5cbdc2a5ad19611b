-- Where a reader of CSV stands in a text, and what it takes of it.
use Rattle.std.specs.Prelude.{◌≡◌, ℕ, List, [], Option, Some, None}
use Rattle.std.specs.Borrow.{Bor}
use Rattle.csv.specs.Machine.{Read, next_record}
use Rattle.csv.specs.Reading.{default_config, reader_state, source_of}
use Rattle.csv.specs.declared.parser.State.TheVariants as st
use Rattle.csv.specs.declared.reader.Reader.{Reader}
use Rattle.pocsag_pages.specs.PageFile.{Row}
use Rattle.pocsag_pages.specs.Rows.{bytes_left}

-- The reader stands before a record, and has these bytes left.
pub record IsBefore (reader : Reader (Bor (List ℕ))) (bytes : List ℕ) : Type 0 where
  pub state : reader_state reader ≡ st.StartRecord
  pub source : source_of bytes_left reader ≡ Some bytes

-- What a reader that stood before these bytes gave: the record that csv reads of them, or none where it reads none.
abbrev pub GivesRow : Option Row → (bytes : List ℕ) → (after : Reader (Bor (List ℕ))) → Type 0
GivesRow None bytes after = next_record default_config st.StartRecord [] [] bytes ≡ None
GivesRow (Some row) bytes after = (read : Read) × (next_record default_config st.StartRecord [] [] bytes ≡ Some read)
    × (row ≡ read.0) × (reader_state after ≡ read.1) × (source_of bytes_left after ≡ Some read.2)
