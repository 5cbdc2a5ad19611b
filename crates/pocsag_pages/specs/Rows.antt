-- The records that a reader of CSV over bytes in memory has left.
use Rattle.std.specs.Prelude.{◌≡◌, ℕ, ◌+◌, Bool, List, [], length, true, false, Option, Some, None, IsSome}
use Rattle.std.specs.Borrow.{Bor}
use Rattle.csv.specs.declared.parser.State.{State}
use Rattle.csv.specs.declared.reader.Reader.{Reader}
use Rattle.csv.specs.declared.reader.Trim.TheVariants as trim
use Rattle.csv.specs.Reading.{default_config, records_from, reader_config, reader_state, reader_trim, is_flexible, source_of, Ready}

-- The bytes that a slice has left to read.
abbrev pub bytes_left : Bor (List ℕ) → Option (List ℕ)
bytes_left s = Some s.now

-- The records of what is left of a text, from a state of csv's reader; none where it is not known.
unfoldable pub rows_known : State → Option (List ℕ) → List (List (List ℕ))
rows_known s None = []
rows_known s (Some bytes) = records_from default_config (length bytes + 1) s bytes

-- The records that a reader has left.
abbrev pub rows_left : Reader (Bor (List ℕ)) → List (List (List ℕ))
rows_left reader = rows_known (reader_state reader) (source_of bytes_left reader)

-- A reader of the default dialect, which stands before a record or at the end and knows its bytes.
pub record IsAtRecord (reader : Reader (Bor (List ℕ))) : Type 0 where
  pub config : reader_config reader ≡ default_config
  pub trim : reader_trim reader ≡ trim.None
  pub flexible : is_flexible reader ≡ true
  pub ready : Ready reader
  pub known : IsSome (source_of bytes_left reader)

-- None are ahead where reading is over.
abbrev pub rows_ahead : (is_over : Bool) → Reader (Bor (List ℕ)) → List (List (List ℕ))
rows_ahead true reader = []
rows_ahead false reader = rows_left reader
