use Rattle.pocsag_show.proofs.Prelude.{subst, arith, err_from_is_err_and, row_drawn, IsEmitting}
use Rattle.pocsag_show.proofs.Emitted.{next_put, refused}
use Rattle.pocsag_show.proofs.Ranges.{range_first, range_over}
use Rattle.pocsag_show.proofs.drawing.emit_rows.Goals as goal

pub loop-row-preserved : goal.loop-row-preserved
unfolding row_drawn
loop-row-preserved g c = λ start all rest u.
    let loop = c.loop-row in
    let f = row_drawn c.args.window.low in
    c.in_ok-emit.ensures start all _
    (next_put g.S.Sink start loop.sink all _ rest (f loop.row) (range_first f loop.row c.args.window.high (omega arith)) (loop.invariant start all rest u)
    (rw c.row_top-y.ensures.value at c.in_ok-put_printed.ensures))

pub returns-in_err-put_printed : goal.returns-in_err-put_printed
returns-in_err-put_printed g c =
    let p = err_from_is_err_and c.from_residual.result c.from_residual.ensures.1 in
    rw (p.1, p.2) (λ start all rest u. refused g.S.Sink start c.loop-row.sink all _ _ (c.loop-row.invariant start all rest u))

pub returns-in_err-emit : goal.returns-in_err-emit
unfolding row_drawn
returns-in_err-emit g c =
    let p = err_from_is_err_and c.from_residual-in_err-emit.result c.from_residual-in_err-emit.ensures.1 in
    let loop = c.loop-row in
    let f = row_drawn c.args.window.low in
    rw (p.1, p.2) (λ start all rest u.
    c.in_err-emit.ensures start all _
    (next_put g.S.Sink start loop.sink all _ rest (f loop.row) (range_first f loop.row c.args.window.high (omega arith)) (loop.invariant start all rest u)
    (rw c.row_top-y.ensures.value at c.in_ok-put_printed.ensures)))

pub returns : goal.returns
returns g c = λ start all rest u.
    let loop = c.loop-row in
    subst (IsEmitting g.S.Sink start loop.sink all loop.text.items)
    (range_over (row_drawn c.args.window.low) loop.row c.args.window.high rest (omega arith)) (loop.invariant start all rest u)
