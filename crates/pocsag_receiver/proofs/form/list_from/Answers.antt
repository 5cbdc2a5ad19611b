use Rattle.std.specs.Prelude.{Ok, Err}
use Rattle.pocsag_receiver.proofs.Prelude.{err_from_is_err_and, fault_of_list}
use Rattle.pocsag_receiver.proofs.Streams.{rows_streamed}
use Rattle.pocsag_receiver.proofs.form.list_from.Goals as goal

pub returns-in_err-list_rows : goal.returns-in_err-list_rows
returns-in_err-list_rows g c =
    let left = g.P.PageSource.left in
    let p = err_from_is_err_and c.from_residual.result c.from_residual.ensures.1 in
    record {
      streams = rw (p.1, p.2) (rows_streamed g.S.Sink c.args.form (left c.args.pages.now) (left c.list_rows.new.rows) c.args.sink.now c.list_rows.new.sink
          (Err (fault_of_list c.in_err-list_rows.field-0.0)) c.in_err-list_rows.ensures.lists);
    }

pub returns : goal.returns
returns g c =
    let left = g.P.PageSource.left in
    record {
      streams = rows_streamed g.S.Sink c.args.form (left c.args.pages.now) (left c.list_rows.new.rows) c.args.sink.now c.list_rows.new.sink (Ok 0)
          c.in_ok-list_rows.ensures.lists;
    }
