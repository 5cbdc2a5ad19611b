use Rattle.pocsag_show.proofs.Prelude.{ℕ, ◌/◌, List, [], ◌++◌, ap, sym, subst, ◌∙◌, err_from_is_err_and, kinds_read, grid_text, totals_line, IsEmitting, end_row, Grid}
use Rattle.pocsag_show.proofs.Emitted.{refused_first}
use Rattle.pocsag_show.proofs.Texts.{grid_begun, view_some}
use Rattle.pocsag_show.proofs.picture.emit_grid.Goals as goal

pub returns-in_err-letters : goal.returns-in_err-letters
returns-in_err-letters g c =
    let p = err_from_is_err_and c.from_residual.result c.from_residual.ensures.1 in
    rw (p.1, p.2) (λ X j. refused_first g.S.Sink c.args.sink.now c.args.sink.now _ (view_some (Grid c.args.rows) (kinds_read j.reading) j.pages))

pub returns-in_err-put_totals : goal.returns-in_err-put_totals
returns-in_err-put_totals g c =
    let p = err_from_is_err_and c.from_residual-in_err-put_totals.result c.from_residual-in_err-put_totals.ensures.1 in
    rw (p.1, p.2) (λ X j. refused_first g.S.Sink c.args.sink.now c.args.sink.now _ (view_some (Grid c.args.rows) (kinds_read j.reading) j.pages))

pub returns-in_err-put : goal.returns-in_err-put
returns-in_err-put g c =
    let p = err_from_is_err_and c.from_residual-in_err-put.result c.from_residual-in_err-put.ensures.1 in
    rw (p.1, p.2) (λ X j. refused_first g.S.Sink c.args.sink.now c.args.sink.now _ (view_some (Grid c.args.rows) (kinds_read j.reading) j.pages))

pub returns-in_err-emit_batches : goal.returns-in_err-emit_batches
returns-in_err-emit_batches g c =
    let p = err_from_is_err_and c.from_residual-in_err-emit_batches.result c.from_residual-in_err-emit_batches.ensures.1 in
    let judged = c.args.judged.now in
    let letters = c.as_slice.result.now in
    rw (p.1, p.2) (λ X j.
    c.in_err-emit_batches.ensures c.args.sink.now (grid_text c.args.rows (kinds_read j.reading) j.pages) []
    (grid_begun X judged j letters
    (c.as_slice.ensures.value ∙ c.in_ok-letters.ensures)
    g.S.Sink c.args.sink.now c.args.rows c.put_totals.new.text.items c.put.new.text.items c.new-window.result.low c.new-window.result.high
    (c.in_ok-put_totals.ensures
    ∙ ap (λ (l : List ℕ). l ++ totals_line judged.counts.batches judged.counts.codewords judged.counts.idles) c.new-text.ensures.items)
    c.in_ok-put.ensures c.new-window.ensures.low
    (c.new-window.ensures.high ∙ ap (λ (n : ℕ). end_row c.args.rows (n / 16)) (c.len.ensures ∙ sym c.as_slice.ensures.len))))

pub returns : goal.returns
returns g c =
    let judged = c.args.judged.now in
    let letters = c.as_slice.result.now in
    λ X j.
    let all = grid_text c.args.rows (kinds_read j.reading) j.pages in
    c.emit_rest.ensures c.args.sink.now all
    (subst (λ (text : List ℕ). IsEmitting g.S.Sink c.args.sink.now c.emit_batches.new.sink all text []) (sym c.as_slice-2.ensures.value)
    (c.in_ok-emit_batches.ensures c.args.sink.now all []
    (grid_begun X judged j letters
    (c.as_slice.ensures.value ∙ c.in_ok-letters.ensures)
    g.S.Sink c.args.sink.now c.args.rows c.put_totals.new.text.items c.put.new.text.items c.new-window.result.low c.new-window.result.high
    (c.in_ok-put_totals.ensures
    ∙ ap (λ (l : List ℕ). l ++ totals_line judged.counts.batches judged.counts.codewords judged.counts.idles) c.new-text.ensures.items)
    c.in_ok-put.ensures c.new-window.ensures.low
    (c.new-window.ensures.high ∙ ap (λ (n : ℕ). end_row c.args.rows (n / 16)) (c.len.ensures ∙ sym c.as_slice.ensures.len)))))
