use Rattle.pocsag_receiver.proofs.Prelude.{◌≡◌, ◌∷◌, ◌++◌, [], Err, List, ℕ, ap, sym, ◌∙◌, append-nil, err_from_is_err_and}
use Rattle.pocsag_receiver.proofs.Streams.{lists_cut, lists_rest, lists_stopped, written_more, written_none}
use Rattle.pocsag_receiver.proofs.form.list_behind.Goals as goal

pub loop-row-init : goal.loop-row-init
loop-row-init g c =
    let W = g.W.Waiting in
    record {
      ready = c.requires.ready;
      sound = c.requires.sound;
      can = c.requires.can;
      written = written_none g.S.Sink c.args.sink.now (W.text c.args.waiting.now) (W.of_row c.args.texts) (g.R.RowSource.leaves c.args.rows.now);
    }

pub loop-row-preserved : goal.loop-row-preserved
loop-row-preserved g c =
    let W = g.W.Waiting in
    let put = c.in_ok-put.ensures in
    let wrote = c.in_ok-write_long.ensures in
    record {
      ready = wrote.ready;
      sound = c.next_row.ensures.sound;
      can = rw c.in-Some.is at c.in_ok-row.ensures.can;
      written = written_more c.loop-row.invariant.written c.write_long.new.sink (W.text c.put.new.self) (W.text c.write_long.new.self) c.in-Some.row
          (g.R.RowSource.leaves c.next_row.new.self) (rw c.in-Some.is at c.in_ok-row.ensures.handed) put.text wrote.told wrote.grown (wrote.kept put.some)
          wrote.failures.0;
    }

pub returns-in_err-row-clause-lists : goal.returns-in_err-row-clause-lists
returns-in_err-row-clause-lists g c =
    let p = err_from_is_err_and c.from_residual.result c.from_residual.ensures.1 in
    rw (p.1, p.2) (lists_stopped c.loop-row.invariant.written (g.R.RowSource.leaves c.next_row.new.self) [] c.in_err-row.ensures.handed)

pub returns-in_err-put-clause-lists : goal.returns-in_err-put-clause-lists
returns-in_err-put-clause-lists g c =
    let p = err_from_is_err_and c.from_residual-in_err-put.result c.from_residual-in_err-put.ensures.1 in
    rw (p.1, p.2) (lists_stopped c.loop-row.invariant.written (g.R.RowSource.leaves c.next_row.new.self) (c.in-Some.row ∷ [])
    (λ rs told l. (rs, (rw c.in-Some.is at c.in_ok-row.ensures.handed) rs told l)))

pub returns-in_err-write_long-clause-lists : goal.returns-in_err-write_long-clause-lists
returns-in_err-write_long-clause-lists g c =
    let W = g.W.Waiting in
    let waits = W.text c.loop-row.waiting in
    let row = W.of_row c.args.texts c.in-Some.row in
    let p = err_from_is_err_and c.from_residual-in_err-write_long.result c.from_residual-in_err-write_long.ensures.1 in
    let done = c.in_err-write_long.ensures in
    let put : W.text c.put.new.self ≡ waits ++ (row ++ []) = c.in_ok-put.ensures.text ∙ ap (λ (l : List ℕ). waits ++ l) (sym (append-nil row)) in
    rw (p.1, p.2) (lists_cut c.loop-row.invariant.written (g.R.RowSource.leaves c.next_row.new.self) (c.in-Some.row ∷ [])
    (λ rs told l. (rs, (rw c.in-Some.is at c.in_ok-row.ensures.handed) rs told l)) c.write_long.new.sink c.in_err-write_long.field-0.0
    (W.text c.put.new.self) put (λ is. done.failures.1 (ap Err is)) done.part (λ is. done.untouched (ap Err is)))

pub returns-clause-lists : goal.returns-clause-lists
returns-clause-lists g c =
    let done = c.write_rest.ensures in
    lists_rest c.loop-row.invariant.written c.write_rest.result c.write_rest.new.sink (g.R.RowSource.leaves c.next_row.new.self)
    (rw c.in_default.is at c.in_ok-row.ensures.handed) done.whole done.part done.untouched done.failures
