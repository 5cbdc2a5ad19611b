use Rattle.pocsag_text.proofs.Prelude.{Ok, refl, sym, ap, ◌∙◌, inr}
use Rattle.pocsag_text.proofs.Payloads.{as_fault, fault_none, fault_not_memory, alpha_payload-good, alpha_payload-bad, few_alpha, alpha_bytes}
use Rattle.pocsag_text.proofs.pack.pack_alpha.Goals as goal

pub returns-in-Some-clause-err : goal.returns-in-Some-clause-err
returns-in-Some-clause-err c =
    inr (alpha_payload-bad c.args.text.now c.in-Some.fault (as_fault _ _ _ _ c.first_bad_byte.ensures c.in-Some.ensures))

pub returns-in-Some-clause-memory : goal.returns-in-Some-clause-memory
returns-in-Some-clause-memory c = λ m.
    absurd (fault_not_memory _ c.args.text.now c.in-Some.fault (as_fault _ _ _ _ c.first_bad_byte.ensures c.in-Some.ensures) cc)

pub alpha_items-requires-clause-few : goal.alpha_items-requires-clause-few
alpha_items-requires-clause-few c = (fault_none _ c.args.text.now (as_fault _ _ _ _ c.first_bad_byte.ensures c.in_default.ensures)).0

pub alpha_items-requires-clause-small : goal.alpha_items-requires-clause-small
alpha_items-requires-clause-small c = alpha_bytes c.args.text.now (as_fault _ _ _ _ c.first_bad_byte.ensures c.in_default.ensures)

pub returns-clause-ok : goal.returns-clause-ok
returns-clause-ok c =
    alpha_payload-good c.args.text.now (as_fault _ _ _ _ c.first_bad_byte.ensures c.in_default.ensures) ∙ ap Ok (sym c.in_ok-alpha_items.ensures.items)

pub returns-clause-few : goal.returns-clause-few
returns-clause-few c =
    rw c.in_ok-alpha_items.ensures.items (few_alpha c.args.text.now (fault_none _ c.args.text.now (as_fault _ _ _ _ c.first_bad_byte.ensures c.in_default.ensures)).0)

pub returns-in_err-alpha_items-clause-memory : goal.returns-in_err-alpha_items-clause-memory
returns-in_err-alpha_items-clause-memory c = λ m.
    rw (alpha_payload-good c.args.text.now (as_fault _ _ _ _ c.first_bad_byte.ensures c.in_default.ensures)) refl
