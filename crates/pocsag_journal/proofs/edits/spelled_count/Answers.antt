use Rattle.pocsag_journal.proofs.Prelude.{◌≡◌, refl, arith, rules, IsUtf8, first_some, none_read, none_read_of, parsed}
use Rattle.pocsag_journal.proofs.Counts.{counted, no_text}
use Rattle.pocsag_journal.proofs.edits.spelled_count.Goals as goal

pub returns-in_err-first : goal.returns-in_err-first
returns-in_err-first c = counted _ _ (none_read_of c.args.field.now _ c.from_residual.ensures c.in_err-first.ensures.value)

pub returns-then-first-le48 : goal.returns-then-first-le48
returns-then-first-le48 c =
    let first = first_some c.args.field.now c.in_ok-first.field-0.now c.in_ok-first.ensures.value in
    counted _ _ (none_read c.args.field.now _ refl (omega (arith, first, c.if-first-le48.true)))

pub returns-in_err-ok : goal.returns-in_err-ok
returns-in_err-ok c =
    let none : IsUtf8 c.args.field.now → ⊥ = search rules in
    counted _ _ (no_text c.args.field.now _ c.from_residual-in_err-ok.ensures none)

pub returns : goal.returns
returns c =
    let first = first_some c.args.field.now c.in_ok-first.field-0.now c.in_ok-first.ensures.value in
    let same : c.in_ok-ok.field-0.now ≡ c.args.field.now = search rules in
    counted _ _ (parsed c.args.field.now c.parse.result _ c.ok-2.ensures.value (rw same at c.parse.ensures.value.0) (omega (arith, first, c.if-first-le48.false)))
