-- Where a record of CSV stands after some of its bytes.
use Rattle.std.specs.Prelude.{ℕ, ◌==◌, if◌then◌else◌, List, [], ◌∷◌}
use Rattle.csv.specs.Writing.{comma, default_writer, needs_byte, quote_mark}
use Rattle.pocsag_pages.specs.declared.quote_state.QuoteState.{QuoteState}
use Rattle.pocsag_pages.specs.declared.quote_state.QuoteState.TheVariants as at

-- After a byte that calls for quotes, where there are none: a quote that is out of place, or the end of the record.
abbrev pub unquoted_after : ℕ → QuoteState
unquoted_after b = if b == quote_mark then at.Broken else at.Ended

-- After a byte of a field without quotes.
abbrev pub bare_after : ℕ → QuoteState
bare_after b = if b == comma then at.Start else if needs_byte default_writer b then unquoted_after b else at.Bare

-- After one byte more.
abbrev pub quote_state_after : QuoteState → ℕ → QuoteState
quote_state_after at.Start b = if b == quote_mark then at.Open else bare_after b
quote_state_after at.Bare b = bare_after b
quote_state_after at.Open b = if b == quote_mark then at.Closed else at.Open
quote_state_after at.Closed b = if b == quote_mark then at.Open else if b == comma then at.Start else at.Broken
quote_state_after at.Broken b = at.Broken
quote_state_after at.Ended b = at.Ended

-- After these bytes more.
unfoldable pub quote_state_from : QuoteState → List ℕ → QuoteState
quote_state_from q [] = q
quote_state_from q (b ∷ bytes) = quote_state_from (quote_state_after q b) bytes

-- A record may end there.
abbrev pub MayEnd : QuoteState → Type 0
MayEnd at.Start = Unit {0}
MayEnd at.Bare = Unit {0}
MayEnd at.Closed = Unit {0}
MayEnd _ = ⊥

-- A record may go on there.
abbrev pub MayGoOn : QuoteState → Type 0
MayGoOn at.Broken = ⊥
MayGoOn at.Ended = ⊥
MayGoOn _ = Unit {0}
