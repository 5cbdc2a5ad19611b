use Rattle.pocsag_journal.proofs.Prelude.{◌≡◌, ap, refl, sym, ◌∙◌, subst, inl, inr, strip_bom, MayEnd, quote_state_from, record_text, text_of}
use Rattle.pocsag_pages.specs.declared.quote_state.QuoteState.{QuoteState}
use Rattle.pocsag_pages.specs.declared.quote_state.QuoteState.TheVariants as at
use Rattle.pocsag_pages.proofs.RowTexts.{empty_is, may_end, no_row, open_quote, row_is}
use Rattle.pocsag_pages.proofs.Strays.{stray_byte, stray_quote}
use Rattle.pocsag_journal.proofs.edits.record_of.Goals.{After-quote_state_of}
use Rattle.pocsag_journal.proofs.edits.record_of.Goals as goal

-- where the record's text stands at its end
stands : (c : After-quote_state_of) (state : QuoteState) → c.quote_state_of.result ≡ state → quote_state_from at.Start (record_text c.args.line.now) ≡ state
stands c state is = sym (ap (quote_state_from at.Start) (ap strip_bom c.without_return-bare.ensures)) ∙ sym c.quote_state_of.ensures ∙ is

pub returns-in-Open-clause-refused : goal.returns-in-Open-clause-refused
returns-in-Open-clause-refused c =
    let stands = stands (goal.at.returns-in-Open-clause-refused c).After-quote_state_of at.Open c.in-Open.is in
    (no_row _ (λ may. subst MayEnd stands may), open_quote _ stands)

pub returns-in-Broken-clause-refused : goal.returns-in-Broken-clause-refused
returns-in-Broken-clause-refused c = stray_quote _ (stands (goal.at.returns-in-Broken-clause-refused c).After-quote_state_of at.Broken c.in-Broken.is)

pub returns-in-Ended-clause-refused : goal.returns-in-Ended-clause-refused
returns-in-Ended-clause-refused c = inl (stray_byte _ (stands (goal.at.returns-in-Ended-clause-refused c).After-quote_state_of at.Ended c.in-Ended.is))

pub returns-in-Ok-Some : goal.returns-in-Ok-Some
returns-in-Ok-Some c =
    let may = subst MayEnd (sym (stands (goal.at.returns-in-Ok-Some c).After-quote_state_of _ refl)) (may_end _ c.in-Start.is) in
    let read = rw (c.without_return-bare.ensures, c.in-Ok-Some.field-0-is) at c.in-Ok-Some.ensures in
    record { spelled = row_is _ _ may (sym read); refused = tt }

pub returns-in-Ok-None : goal.returns-in-Ok-None
returns-in-Ok-None c =
    let may = subst MayEnd (sym (stands (goal.at.returns-in-Ok-None c).After-quote_state_of _ refl)) (may_end _ c.in-Start.is) in
    let read = rw (c.without_return-bare.ensures, c.in-Ok-None.field-0-is) at c.in-Ok-None.ensures in
    record { spelled = tt; refused = inr (empty_is _ may (sym read)) }

pub returns-in-Err-clause-refused : goal.returns-in-Err-clause-refused
returns-in-Err-clause-refused c =
    let may = subst MayEnd (sym (stands (goal.at.returns-in-Err-clause-refused c).After-quote_state_of _ refl)) (may_end _ c.in-Start.is) in
    (refl, text_of _ may)
