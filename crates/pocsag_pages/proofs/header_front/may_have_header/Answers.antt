use Rattle.pocsag_pages.proofs.Prelude.{◌∙◌, sym, ap, starts_with_header, rows_of}
use Rattle.pocsag_pages.proofs.HeaderFronts.{unheaded_front}
use Rattle.pocsag_pages.proofs.header_front.may_have_header.Goals as goal

pub returns-then-not-found : goal.returns-then-not-found
returns-then-not-found c = λ h.
    let rows = sym c.rows_reader-reader.ensures.rows ∙ c.in_ok-found.ensures.none c.if-not-found.true in
    unheaded_front c.args.file.now
    (ap (λ text. starts_with_header (rows_of text)) (sym c.header_front.ensures) ∙ ap starts_with_header rows)

pub returns : goal.returns
returns c = λ h.
    let rows = sym c.rows_reader-reader.ensures.rows ∙ c.in_ok-found.ensures.found c.if-not-found.false in
    unheaded_front c.args.file.now
    (ap (λ text. starts_with_header (rows_of text)) (sym c.header_front.ensures) ∙ ap starts_with_header rows ∙ sym c.is_header_row.ensures
    ∙ h)
