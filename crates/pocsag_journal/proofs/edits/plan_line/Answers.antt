use Rattle.pocsag_journal.proofs.Prelude.{fields_of}
use Rattle.pocsag_journal.proofs.Fields.{none_of_more, plan_fields, plan_is, plan_length}
use Rattle.pocsag_journal.proofs.edits.plan_line.Goals as goal

pub returns-then-not-is_at-clause-asks : goal.returns-then-not-is_at-clause-asks
returns-then-not-is_at-clause-asks c =
    none_of_more _ (plan_length _ _ _ c.requires)
    (λ end most tx cert asks t u. cc (c.if-not-is_at.true, c.is_at.ensures.1 (plan_fields end most tx cert _ asks).word))

pub returns-in_err-text_at-clause-asks : goal.returns-in_err-text_at-clause-asks
returns-in_err-text_at-clause-asks c =
    rw c.from_residual.ensures
    (none_of_more _ (plan_length _ _ _ c.requires)
    (λ end most tx cert asks t u. c.in_err-text_at.ensures.none tx (plan_fields end most tx cert _ asks).its_tx t))

pub returns-in_err-text_at-2-clause-asks : goal.returns-in_err-text_at-2-clause-asks
returns-in_err-text_at-2-clause-asks c =
    rw c.from_residual-in_err-text_at-2.ensures
    (none_of_more _ (plan_length _ _ _ c.requires)
    (λ end most tx cert asks t u. c.in_err-text_at-2.ensures.none cert (plan_fields end most tx cert _ asks).its_cert u))

pub returns-clause-asks : goal.returns-clause-asks
returns-clause-asks c =
    plan_is c.args.end c.args.at_most (fields_of c.args.row.now) _ _ c.requires (c.is_at.ensures.0 c.if-not-is_at.false) c.in_ok-text_at.ensures.text
    c.in_ok-text_at-2.ensures.text
