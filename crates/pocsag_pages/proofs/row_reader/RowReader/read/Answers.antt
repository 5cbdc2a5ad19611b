use Rattle.pocsag_pages.proofs.Prelude.{◌<◌, ◌∙◌, length, sym, ap, arith, fields_of, rows_ahead}
use Rattle.csv.proofs.RecordFacts.{cut-length}
use Rattle.pocsag_pages.proofs.WideRecords.{narrow_row, no_row, wide_row}
use Rattle.pocsag_pages.proofs.row_reader.RowReader.read.Goals as goal

pub returns-then-self-clause-none : goal.returns-then-self-clause-none
returns-then-self-clause-none c = λ none.
    sym c.self.view_is ∙ no_row _ (ap (λ over. rows_ahead over c.self.inside.reader) c.if-self.true)

pub returns-then-not-found-clause-none : goal.returns-then-not-found-clause-none
returns-then-not-found-clause-none c = λ none.
    let ahead = ap (λ over. rows_ahead over c.self.inside.reader) c.if-self.false in
    sym c.self.view_is ∙ no_row _ (ahead ∙ c.in_ok-found.ensures.none c.if-not-found.true)

pub returns-then-len-gt-PAGE_FIELDS-clause-found : goal.returns-then-len-gt-PAGE_FIELDS-clause-found
returns-then-len-gt-PAGE_FIELDS-clause-found c = λ found.
    let row = c.next_row.new.row in
    let ahead = ap (λ over. rows_ahead over c.self.inside.reader) c.if-self.false in
    let wide : 3 < length (fields_of row) = omega (arith, c.len.ensures) in
    let ends : 3 < length row.ends = omega (arith, wide, cut-length 0 row.ends row.bytes) in
    let cut = rw (c.truncate.ensures.fields, c.truncate.ensures.partial.0 ends) at c.in_ok-push_field.ensures.fields in
    sym c.self.view_is ∙ wide_row _ _ _ _ (ahead ∙ c.in_ok-found.ensures.found c.if-not-found.false) wide cut

pub returns-clause-found : goal.returns-clause-found
returns-clause-found c = λ found.
    let ahead = ap (λ over. rows_ahead over c.self.inside.reader) c.if-self.false in
    sym c.self.view_is
    ∙ narrow_row _ _ _ (ahead ∙ c.in_ok-found.ensures.found c.if-not-found.false) (omega (arith, c.len.ensures))
