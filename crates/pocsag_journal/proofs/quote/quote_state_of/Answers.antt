use Rattle.pocsag_journal.proofs.Prelude.{◌≡◌, [], drop, ap, sym, ◌∙◌, rules, arith, drop_all, quote_state_from, at_the_end, one_byte}
use Rattle.pocsag_pages.specs.declared.quote_state.QuoteState.TheVariants as at
use Rattle.pocsag_journal.proofs.quote.quote_state_of.Goals as goal

pub loop-byte-preserved : goal.loop-byte-preserved
loop-byte-preserved c = search (rules, one_byte)

pub returns : goal.returns
returns c =
    let over : drop c.loop-byte.byte-index c.behind_mark-text.result.now ≡ [] = drop_all c.loop-byte.byte-index c.behind_mark-text.result.now (omega arith) in
    sym (at_the_end _) ∙ sym (ap (quote_state_from c.loop-byte.state) over) ∙ c.loop-byte.invariant ∙ ap (quote_state_from at.Start) c.behind_mark-text.ensures
