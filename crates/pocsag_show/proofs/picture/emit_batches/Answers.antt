use Rattle.pocsag_show.proofs.Prelude.{slice_index, subst, arith, err_from_is_err_and, batch_line, batch_lines, IsEmitting}
use Rattle.pocsag_show.proofs.Emitted.{next_put, refused}
use Rattle.pocsag_show.proofs.Ranges.{range_first, range_over}
use Rattle.pocsag_show.proofs.picture.emit_batches.Goals as goal

pub loop-batch-preserved : goal.loop-batch-preserved
unfolding batch_lines
loop-batch-preserved g c = λ start all rest u.
    let loop = c.loop-batch in
    let f = batch_line (slice_index c.args.letters.now) in
    c.in_ok-emit.ensures start all _
    (next_put g.S.Sink start loop.sink all _ rest (f loop.batch) (range_first f loop.batch c.args.window.high (omega arith)) (loop.invariant start all rest u)
    c.in_ok-put_batch.ensures)

pub returns-in_err-put_batch : goal.returns-in_err-put_batch
unfolding batch_lines
returns-in_err-put_batch g c =
    let p = err_from_is_err_and c.from_residual.result c.from_residual.ensures.1 in
    rw (p.1, p.2) (λ start all rest u. refused g.S.Sink start c.loop-batch.sink all _ _ (c.loop-batch.invariant start all rest u))

pub returns-in_err-emit : goal.returns-in_err-emit
unfolding batch_lines
returns-in_err-emit g c =
    let p = err_from_is_err_and c.from_residual-in_err-emit.result c.from_residual-in_err-emit.ensures.1 in
    let loop = c.loop-batch in
    let f = batch_line (slice_index c.args.letters.now) in
    rw (p.1, p.2) (λ start all rest u.
    c.in_err-emit.ensures start all _
    (next_put g.S.Sink start loop.sink all _ rest (f loop.batch) (range_first f loop.batch c.args.window.high (omega arith)) (loop.invariant start all rest u)
    c.in_ok-put_batch.ensures))

pub returns : goal.returns
unfolding batch_lines
returns g c = λ start all rest u.
    let loop = c.loop-batch in
    subst (IsEmitting g.S.Sink start loop.sink all loop.text.items)
    (range_over (batch_line (slice_index c.args.letters.now)) loop.batch c.args.window.high rest (omega arith)) (loop.invariant start all rest u)
