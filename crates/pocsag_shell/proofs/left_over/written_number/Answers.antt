use Rattle.pocsag_shell.proofs.Prelude.{refl, arith}
use Rattle.pocsag_shell.proofs.StagedFiles.{first_some, none_read, none_read_of, parsed}
use Rattle.pocsag_shell.proofs.left_over.written_number.Goals as goal

pub returns-in_err-first : goal.returns-in_err-first
returns-in_err-first c = none_read_of c.args.digits.now _ c.from_residual.ensures (rw c.as_bytes.ensures.value at c.in_err-first.ensures.value)

pub returns-then-first-le48 : goal.returns-then-first-le48
returns-then-first-le48 c =
    let first = first_some c.args.digits.now c.in_ok-first.field-0.now (rw c.as_bytes.ensures.value at c.in_ok-first.ensures.value) in
    none_read c.args.digits.now _ refl (omega (arith, first, c.if-first-le48.true))

pub returns : goal.returns
returns c =
    let first = first_some c.args.digits.now c.in_ok-first.field-0.now (rw c.as_bytes.ensures.value at c.in_ok-first.ensures.value) in
    parsed c.args.digits.now c.parse.result _ c.ok.ensures.value c.parse.ensures.value.0 (omega (arith, first, c.if-first-le48.false))
