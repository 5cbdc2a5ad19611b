use Rattle.pocsag_pages.proofs.Prelude.{◌≡◌, ◌-◌, length, drop, sym, ◌∙◌, arith, length-drop, take_all}
use Rattle.pocsag_pages.proofs.QuoteStates.{marked, unmarked}
use Rattle.pocsag_pages.proofs.quote_state.behind_mark.Goals as goal

pub returns-then-starts_with : goal.returns-then-starts_with
returns-then-starts_with c =
    let bytes = c.args.bytes.now in
    let short : length (drop 3 bytes) ≡ length bytes - 3 = length-drop 3 bytes in
    take_all (length bytes - 3) (drop 3 bytes) (omega arith) ∙ sym (marked bytes (sym c.starts_with.ensures.value ∙ c.if-starts_with.true))

pub returns-else-starts_with : goal.returns-else-starts_with
returns-else-starts_with c = sym (unmarked c.args.bytes.now (sym c.starts_with.ensures.value ∙ c.if-starts_with.false))
