-- What is known of a walk over the quotes of a page file at a place.
use Rattle.std.specs.Prelude.{◌≡◌, ℕ, Bool, true, false, List, [], ◌∷◌, ◌++◌}
use Rattle.csv.specs.Writing.{default_writer, escaped, needs_quotes, quote_mark, quoted}
use Rattle.pocsag_pages.specs.declared.quote_place.QuotePlace.{QuotePlace}
use Rattle.pocsag_pages.specs.declared.quote_state.QuoteState.{QuoteState}
use Rattle.pocsag_pages.specs.declared.quote_state.QuoteState.TheVariants as at
use Rattle.pocsag_pages.specs.Quotes.{AreRecords, IsFieldStart, line_behind}
use Rattle.pocsag_pages.specs.QuoteStates.{quote_state_from}

-- The front of a record that stands so, and where its last field starts: nothing of that field, bytes of it without quotes, its
-- opening quote and each quote behind that doubled, or the whole field in its quotes.
pub data IsRecordFront : QuoteState → (start front : List ℕ) → Type 0 where
  at_start : {front : List ℕ} → IsFieldStart front → IsRecordFront at.Start front front
  unquoted : {start : List ℕ} (held : List ℕ) → IsFieldStart start → needs_quotes default_writer held ≡ false → IsRecordFront at.Bare start (start ++ held)
  opened : {start : List ℕ} (held : List ℕ) → IsFieldStart start → IsRecordFront at.Open start (start ++ quote_mark ∷ escaped default_writer held)
  closed : {start : List ℕ} (held : List ℕ) → IsFieldStart start → IsRecordFront at.Closed start (start ++ quoted default_writer held)

-- Whether there are no bytes.
abbrev pub is_empty : List ℕ → Bool
is_empty [] = true
is_empty (b ∷ bytes) = false

-- The walk has seen these bytes: whole records, and a front of one more.
pub record HasSeen (place : QuotePlace) (seen : List ℕ) : Type 0 where
  pub before : List ℕ
  pub start : List ℕ
  pub front : List ℕ
  pub parts : seen ≡ before ++ front
  pub records : AreRecords place.number before
  pub state : quote_state_from at.Start front ≡ place.state
  pub field : IsRecordFront place.state start front
  pub blank : place.is_blank ≡ is_empty front
  pub line : place.line ≡ line_behind seen
  pub opened : place.opened ≡ line_behind (before ++ start)
