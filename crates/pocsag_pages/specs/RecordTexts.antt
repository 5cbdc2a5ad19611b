-- *Text of a record* of CSV, as a grammar: fields with a comma between two, each as it is or between quotes; and where a text is
-- none (this project's own).
use Rattle.std.specs.Prelude.{◌≡◌, ◌⊎◌, ℕ, List, [], ◌∷◌, ◌++◌, false}
use Rattle.csv.specs.Writing.{comma, default_writer, needs_quotes, quote_mark, quoted}

-- The text of a field: as it is, where nothing in it calls for quotes, or between quotes, each quote in it doubled.
pub data IsFieldText : (field text : List ℕ) → Type 0 where
  bare : {field : List ℕ} → needs_quotes default_writer field ≡ false → IsFieldText field field
  between_quotes : {field : List ℕ} → IsFieldText field (quoted default_writer field)

-- The text of a record: the texts of its fields, with a comma between two.
pub data IsRowText : (fields : List (List ℕ)) (text : List ℕ) → Type 0 where
  last : {field text : List ℕ} → IsFieldText field text → IsRowText (field ∷ []) text
  before : {field text : List ℕ} {fields : List (List ℕ)} {rest : List ℕ}
      → IsFieldText field text → IsRowText fields rest → IsRowText (field ∷ fields) (text ++ comma ∷ rest)

-- Of no record is it the text.
abbrev pub HasNoRecord : List ℕ → Type 0
HasNoRecord text = (fields : List (List ℕ)) → IsRowText fields text → ⊥

-- A quote is open at its end: one quote more would end its last field, and make it the text of a record.
abbrev pub EndsInQuotes : List ℕ → Type 0
EndsInQuotes text = (fields : List (List ℕ)) × IsRowText fields (text ++ quote_mark ∷ [])

-- At this byte the text is lost: what stands before it is the text of a record, and no text of a record goes on with it.
pub record IsLostAt (text front : List ℕ) (byte : ℕ) : Type 0 where
  pub rest : List ℕ
  pub parts : text ≡ front ++ byte ∷ rest
  pub fields : List (List ℕ)
  pub begun : IsRowText fields front
  pub lost : (more : List ℕ) → HasNoRecord (front ++ byte ∷ more)

-- The byte is a quote, or stands behind one.
abbrev pub IsAtQuote : (front : List ℕ) (byte : ℕ) → Type 0
IsAtQuote front byte = (byte ≡ quote_mark) ⊎ ((start : List ℕ) × (front ≡ start ++ quote_mark ∷ []))

-- A quote is out of place: the text is lost at a quote, or behind one.
abbrev pub HasStrayQuote : List ℕ → Type 0
HasStrayQuote text = (front : List ℕ) × ((byte : ℕ) × IsLostAt text front byte × IsAtQuote front byte)

-- The text is lost at a byte that is no matter of quotes.
abbrev pub HasStrayByte : List ℕ → Type 0
HasStrayByte text = (front : List ℕ) × ((byte : ℕ) × IsLostAt text front byte × (IsAtQuote front byte → ⊥))
