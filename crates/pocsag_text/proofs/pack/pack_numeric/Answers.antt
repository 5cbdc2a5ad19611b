use Rattle.pocsag_text.proofs.Prelude.{Ok, refl, sym, ap, ◌∙◌, inr}
use Rattle.pocsag_text.proofs.Payloads.{as_fault, fault_none, fault_not_memory, numeric_payload-good, numeric_payload-bad, few_numeric}
use Rattle.pocsag_text.proofs.pack.pack_numeric.Goals as goal

pub returns-in-Some-clause-err : goal.returns-in-Some-clause-err
returns-in-Some-clause-err c =
    inr (numeric_payload-bad c.args.text.now c.in-Some.fault (as_fault _ _ _ _ c.first_bad_digit.ensures c.in-Some.ensures))

pub returns-in-Some-clause-memory : goal.returns-in-Some-clause-memory
returns-in-Some-clause-memory c = λ m.
    absurd (fault_not_memory _ c.args.text.now c.in-Some.fault (as_fault _ _ _ _ c.first_bad_digit.ensures c.in-Some.ensures) cc)

pub numeric_items-requires : goal.numeric_items-requires
numeric_items-requires c = (fault_none _ c.args.text.now (as_fault _ _ _ _ c.first_bad_digit.ensures c.in_default.ensures)).0

pub returns-clause-ok : goal.returns-clause-ok
returns-clause-ok c =
    numeric_payload-good c.args.text.now (as_fault _ _ _ _ c.first_bad_digit.ensures c.in_default.ensures) ∙ ap Ok (sym c.in_ok-numeric_items.ensures.items)

pub returns-clause-few : goal.returns-clause-few
returns-clause-few c =
    rw c.in_ok-numeric_items.ensures.items (few_numeric c.args.text.now (fault_none _ c.args.text.now (as_fault _ _ _ _ c.first_bad_digit.ensures c.in_default.ensures)).0)

pub returns-in_err-numeric_items-clause-memory : goal.returns-in_err-numeric_items-clause-memory
returns-in_err-numeric_items-clause-memory c = λ m.
    rw (numeric_payload-good c.args.text.now (as_fault _ _ _ _ c.first_bad_digit.ensures c.in_default.ensures)) refl
