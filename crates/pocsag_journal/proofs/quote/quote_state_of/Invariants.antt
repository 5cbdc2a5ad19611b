use Rattle.pocsag_journal.proofs.Prelude.{◌≡◌, drop, quote_state_from}
use Rattle.pocsag_pages.specs.declared.quote_state.QuoteState.TheVariants as at
use Rattle.pocsag_journal.proofs.quote.quote_state_of.Given as goal

abbrev pub invariant-loop-byte : goal.invariant-loop-byte
invariant-loop-byte l = quote_state_from l.state (drop l.byte-index l.text) ≡ quote_state_from at.Start l.text
