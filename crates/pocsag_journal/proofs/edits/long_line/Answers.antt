use Rattle.pocsag_journal.proofs.Prelude.{◌∙◌, arith, fields_of, add}
use Rattle.pocsag_journal.proofs.Fields.{edit_only, has_field, none_of_more, not_add, plan_fields}
use Rattle.pocsag_journal.proofs.edits.long_line.Goals as goal

pub returns-in_err-get : goal.returns-in_err-get
returns-in_err-get c = absurd (has_field (fields_of c.args.row.now) 1 (omega arith) c.in_err-get.ensures.value)

pub returns-in_err-get-2 : goal.returns-in_err-get-2
returns-in_err-get-2 c = absurd (has_field (fields_of c.args.row.now) 2 (omega arith) c.in_err-get-2.ensures.value)

pub returns-in_err-get-3 : goal.returns-in_err-get-3
returns-in_err-get-3 c = absurd (has_field (fields_of c.args.row.now) 3 (omega arith) c.in_err-get-3.ensures.value)

pub returns-then-is_at : goal.returns-then-is_at
returns-then-is_at c =
    let only = edit_only (add _ _ _) (fields_of c.args.row.now)
    (c.is_at.ensures.0 c.if-is_at.true, (c.in_ok-get.ensures.value, (c.in_ok-get-2.ensures.value, (c.in_ok-get-3.ensures.value, c.requires)))) in
    record { edit = only.0; asks = only.1 }

pub returns-in-Some-clause-edit : goal.returns-in-Some-clause-edit
returns-in-Some-clause-edit c =
    c.plan_line.ensures.edit
    ∙ not_add (fields_of c.args.row.now) c.requires (λ e. cc (c.if-is_at.false, c.is_at.ensures.1 e))

pub returns-in-None : goal.returns-in-None
returns-in-None c =
    let row = fields_of c.args.row.now in
    record {
      edit = not_add row c.requires (λ e. cc (c.if-is_at.false, c.is_at.ensures.1 e));
      asks = none_of_more row (omega (arith, c.requires))
          (λ end most tx cert asks t u. c.in-None.ensures.none end ((plan_fields end most tx cert row asks).its_end (omega (arith, c.requires))));
    }
