use Rattle.pocsag_journal.proofs.Prelude.{◌∷◌, [], length, refl, arith, ap, field_at, fields_of, clear}
use Rattle.std.proofs.Common.{codes}
use Rattle.pocsag_journal.proofs.Fields.{edit_only, none_of_few, not_clear, row_is}
use Rattle.pocsag_journal.proofs.edits.bare_line.Goals as goal

pub returns-then-is_at : goal.returns-then-is_at
returns-then-is_at c =
    let only = edit_only clear (fields_of c.args.row.now) (c.is_at.ensures.0 c.if-is_at.true, c.requires) in
    record { edit = only.0; asks = only.1 }

pub returns-then-is_at-2-clause-edit : goal.returns-then-is_at-2-clause-edit
returns-then-is_at-2-clause-edit c =
    not_clear (fields_of c.args.row.now) c.requires (λ e. cc (c.if-is_at.false, c.is_at.ensures.1 e))

pub returns-then-is_at-2-clause-asks : goal.returns-then-is_at-2-clause-asks
returns-then-is_at-2-clause-asks c = row_is _ (codes "list" ∷ []) (c.is_at-2.ensures.0 c.if-is_at-2.true, c.requires)

pub returns : goal.returns
unfolding field_at
returns c =
    let row = fields_of c.args.row.now in
    record {
      edit = not_clear row c.requires (λ e. cc (c.if-is_at.false, c.is_at.ensures.1 e));
      asks = none_of_few row (omega (arith, c.requires)) (λ e. cc (c.if-is_at-2.false, c.is_at-2.ensures.1 (rw e refl)))
          (λ e. let two = ap length e in omega (arith, two, c.requires));
    }
