use Rattle.pocsag_journal.proofs.Prelude.{ap, length, refl, arith, field_at, fields_of, cancel, first_record, sent}
use Rattle.pocsag_journal.proofs.Fields.{edit_only, has_field, none_of_few, not_sent, row_is}
use Rattle.pocsag_journal.proofs.edits.pair_line.Goals.{else-is_at-3-via-then-is_at-3+else-is_at-4, else-is_at-3-via-else-is_at-3}
use Rattle.pocsag_journal.proofs.edits.pair_line.Goals as goal

pub returns-in_err-get : goal.returns-in_err-get
returns-in_err-get c = absurd (has_field (fields_of c.args.row.now) 1 (omega arith) c.in_err-get.ensures.value)

pub returns-then-is_at : goal.returns-then-is_at
returns-then-is_at c =
    let only = edit_only (cancel _) (fields_of c.args.row.now) (c.is_at.ensures.0 c.if-is_at.true, (c.in_ok-get.ensures.value, c.requires)) in
    record { edit = only.0; asks = only.1 }

pub returns-in_err-get-2 : goal.returns-in_err-get-2
returns-in_err-get-2 c = absurd (has_field (fields_of c.args.row.now) 1 (omega arith) c.in_err-get-2.ensures.value)

pub returns-then-is_at-2 : goal.returns-then-is_at-2
returns-then-is_at-2 c =
    let only = edit_only (sent _) (fields_of c.args.row.now) (c.is_at-2.ensures.0 c.if-is_at-2.true, (c.in_ok-get-2.ensures.value, c.requires)) in
    record { edit = only.0; asks = only.1 }

pub returns-then-is_at-4 : goal.returns-then-is_at-4
returns-then-is_at-4 c = record {
  edit = not_sent (fields_of c.args.row.now) c.requires (λ e. cc (c.if-is_at.false, c.is_at.ensures.1 e))
      (λ e. cc (c.if-is_at-2.false, c.is_at-2.ensures.1 e));
  asks = row_is _ first_record (c.is_at-3.ensures.0 c.if-is_at-3.true, (c.is_at-then-is_at-3.ensures.0 c.if-is_at-4.true, c.requires));
}

pub returns : goal.returns
unfolding field_at
returns c =
    let row = fields_of c.args.row.now in
    record {
      edit = not_sent row c.requires (λ e. cc (c.if-is_at.false, c.is_at.ensures.1 e)) (λ e. cc (c.if-is_at-2.false, c.is_at-2.ensures.1 e));
      asks = none_of_few row (omega (arith, c.requires)) (λ e. let one = ap length e in omega (arith, one, c.requires))
          (λ e. elim c.else-is_at-3.branch [
            | else-is_at-3-via-then-is_at-3+else-is_at-4 w ↦ cc (w.if-is_at-4.false, w.is_at-then-is_at-3.ensures.1 (rw e refl))
            | else-is_at-3-via-else-is_at-3 w ↦ cc (w.if-is_at-3.false, c.is_at-3.ensures.1 (rw e refl))
          ]);
    }
