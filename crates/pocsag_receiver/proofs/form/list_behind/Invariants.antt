use Rattle.pocsag_receiver.proofs.Streams.{AreWritten}
use Rattle.pocsag_receiver.proofs.form.list_behind.Given as goal

abbrev pub invariant-loop-row : goal.invariant-loop-row
invariant-loop-row g l =
    let W = g.W.Waiting in
    let R = g.R.RowSource in
    record {
      ready : W.is_ready l.waiting;
      sound : R.is_sound l.rows;
      can : R.can_list l.rows;
      written : AreWritten g.S.Sink l.fn.sink l.sink (W.text l.fn.waiting) (W.text l.waiting) (W.of_row l.texts) (R.leaves l.fn.rows) (R.leaves l.rows);
    }

abbrev pub decreases-loop-row : goal.decreases-loop-row
decreases-loop-row g l = g.R.RowSource.most l.rows
