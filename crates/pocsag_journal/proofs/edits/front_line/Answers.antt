use Rattle.pocsag_journal.proofs.Prelude.{◌≡◌, ℕ, List, arith, refl, subst, fields_of, SpellsCount}
use Rattle.pocsag_journal.proofs.Fields.{has_field, none_of_more, plan_fields}
use Rattle.pocsag_journal.proofs.edits.front_line.Goals as goal

pub returns-in_err-end-clause-asks : goal.returns-in_err-end-clause-asks
returns-in_err-end-clause-asks c =
    let row = fields_of c.args.row.now in
    rw c.from_residual.ensures
    (none_of_more row (omega (arith, c.requires))
    (λ end most tx cert asks t u. c.in_err-end.ensures.none end ((plan_fields end most tx cert row asks).its_end (omega (arith, c.requires)))))

pub returns-in_err-get-clause-asks : goal.returns-in_err-get-clause-asks
returns-in_err-get-clause-asks c =
    absurd (has_field (fields_of c.args.row.now) 4 (omega (arith, c.requires)) c.in_err-get.ensures.value)

pub returns-in_err-batches-clause-asks : goal.returns-in_err-batches-clause-asks
returns-in_err-batches-clause-asks c =
    let row = fields_of c.args.row.now in
    rw c.from_residual-in_err-batches.ensures
    (none_of_more row (omega (arith, c.requires))
    (λ end most tx cert asks t u.
    let counted = (plan_fields end most tx cert row asks).its_count (omega (arith, c.requires)) in
    let same : counted.0 ≡ c.in_ok-get.field-0.now = cc (counted.2, c.in_ok-get.ensures.value) in
    cc ((c.in_err-batches.ensures counted.1).1 (subst (λ (f : List ℕ). SpellsCount f counted.1) same counted.3))))

pub plan_line-requires : goal.plan_line-requires
plan_line-requires c = (
  c.requires,
  c.in_ok-end.ensures.named,
  (c.in_ok-get.field-0.now, c.in_ok-get.ensures.value, (c.in_ok-batches.ensures c.in_ok-batches.batches).0 refl),
)
