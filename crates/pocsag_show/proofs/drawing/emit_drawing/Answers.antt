use Rattle.pocsag_show.proofs.Prelude.{◌≡◌, ℕ, List, [], ◌++◌, ap, sym, subst, ◌∙◌, err_from_is_err_and, behind_pages, drawing, kinds_read, IsEmitting, Placed, Drawing}
use Rattle.pocsag_show.proofs.Emitted.{put_behind, refused, refused_first}
use Rattle.pocsag_show.proofs.Texts.{drawing_begun, view_some}
use Rattle.pocsag_show.proofs.drawing.emit_drawing.Goals as goal

pub first_drawn-requires : goal.first_drawn-requires
first_drawn-requires g c = c.new-pages.ensures.listable c.requires.reads.0 c.requires.reads.1

pub emit_pages-requires-clause-listable : goal.emit_pages-requires-clause-listable
emit_pages-requires-clause-listable g c = c.new-pages-2.ensures.listable c.requires.reads.0 c.requires.reads.1

pub returns-in_err-drawn : goal.returns-in_err-drawn
returns-in_err-drawn g c =
    let p = err_from_is_err_and c.from_residual.result c.from_residual.ensures.1 in
    rw (p.1, p.2) (λ X j. refused_first g.S.Sink c.args.sink.now c.args.sink.now _ (view_some (Drawing c.args.rows) (kinds_read j.reading) j.pages))

pub returns-in_err-put_heading : goal.returns-in_err-put_heading
returns-in_err-put_heading g c =
    let p = err_from_is_err_and c.from_residual-in_err-put_heading.result c.from_residual-in_err-put_heading.ensures.1 in
    rw (p.1, p.2) (λ X j. refused_first g.S.Sink c.args.sink.now c.args.sink.now _ (view_some (Drawing c.args.rows) (kinds_read j.reading) j.pages))

pub returns-in_err-emit_rows : goal.returns-in_err-emit_rows
returns-in_err-emit_rows g c =
    let p = err_from_is_err_and c.from_residual-in_err-emit_rows.result c.from_residual-in_err-emit_rows.ensures.1 in
    rw (p.1, p.2) (λ X j.
    c.in_err-emit_rows.ensures c.args.sink.now _ _
    (drawing_begun g.S.Sink c.args.sink.now X c.args.judged.now j c.args.rows c.new-window.result.low c.new-window.result.high _ _ _ _ _ _
    c.new-window.ensures.low c.new-window.ensures.high c.new-pages.ensures.left c.new-pages.ensures.left c.as_slice.ensures.value
    c.in_ok-drawn.ensures.legend c.new-text.ensures.items c.in_ok-put_heading.ensures))

pub returns-in_err-emit_pages : goal.returns-in_err-emit_pages
returns-in_err-emit_pages g c =
    let p = err_from_is_err_and c.from_residual-in_err-emit_pages.result c.from_residual-in_err-emit_pages.ensures.1 in
    rw (p.1, p.2) (λ X j.
    c.in_err-emit_pages.ensures c.args.sink.now _ _ (c.in_ok-emit_rows.ensures c.args.sink.now _ _
    (drawing_begun g.S.Sink c.args.sink.now X c.args.judged.now j c.args.rows c.new-window.result.low c.new-window.result.high _ _ _ _ _ _
    c.new-window.ensures.low c.new-window.ensures.high c.new-pages.ensures.left c.new-pages-2.ensures.left c.as_slice.ensures.value
    c.in_ok-drawn.ensures.legend c.new-text.ensures.items c.in_ok-put_heading.ensures)))

pub returns-in_err-put_end : goal.returns-in_err-put_end
returns-in_err-put_end g c =
    let p = err_from_is_err_and c.from_residual-in_err-put_end.result c.from_residual-in_err-put_end.ensures.1 in
    rw (p.1, p.2) (λ X j.
    refused g.S.Sink c.args.sink.now c.emit_pages.new.sink _ _ _
    (c.in_ok-emit_pages.ensures c.args.sink.now _ _ (c.in_ok-emit_rows.ensures c.args.sink.now _ _
    (drawing_begun g.S.Sink c.args.sink.now X c.args.judged.now j c.args.rows c.new-window.result.low c.new-window.result.high _ _ _ _ _ _
    c.new-window.ensures.low c.new-window.ensures.high c.new-pages.ensures.left c.new-pages-2.ensures.left c.as_slice.ensures.value
    c.in_ok-drawn.ensures.legend c.new-text.ensures.items c.in_ok-put_heading.ensures))))

pub returns : goal.returns
returns g c =
    let same : c.as_slice-2.result.now ≡ c.as_slice.result.now = c.as_slice-2.ensures.value ∙ sym c.as_slice.ensures.value in
    λ X j.
    c.emit_rest.ensures c.args.sink.now _
    (subst (λ (text : List ℕ). IsEmitting g.S.Sink c.args.sink.now c.emit_pages.new.sink (drawing c.args.rows (kinds_read j.reading) j.pages) text [])
    (sym c.as_slice-3.ensures.value)
    (put_behind g.S.Sink c.args.sink.now c.emit_pages.new.sink _ _ _ _ []
    (c.in_ok-emit_pages.ensures c.args.sink.now _ _ (c.in_ok-emit_rows.ensures c.args.sink.now _ _
    (drawing_begun g.S.Sink c.args.sink.now X c.args.judged.now j c.args.rows c.new-window.result.low c.new-window.result.high _ _ _ _ _ _
    c.new-window.ensures.low c.new-window.ensures.high c.new-pages.ensures.left c.new-pages-2.ensures.left c.as_slice.ensures.value
    c.in_ok-drawn.ensures.legend c.new-text.ensures.items c.in_ok-put_heading.ensures)))
    (c.in_ok-put_end.ensures
    ∙ ap (λ (l : List Placed). c.emit_pages.new.text.items ++ behind_pages c.new-window.result.low c.new-window.result.high l) same)))
