use Rattle.pocsag_shell.proofs.Prelude.{◌≡◌, ℕ, List, ◌++◌, sym, ap, ◌∙◌, Some}
use Rattle.std.specs.Prelude.{None}
use Rattle.pocsag_shell.proofs.StagedFiles.{where_none, split_dot, staged, without_dot, without_ending, without_number}
use Rattle.pocsag_shell.proofs.left_over.process_of.Goals as goal

pub returns-in_err-strip_suffix-clause-none : goal.returns-in_err-strip_suffix-clause-none
returns-in_err-strip_suffix-clause-none c =
    where_none c.from_residual.result _ (without_ending c.args.file.now c.args.ending.now c.in_err-strip_suffix.ensures.cases)

pub returns-in_err-front-clause-none : goal.returns-in_err-front-clause-none
returns-in_err-front-clause-none c =
    let last = c.in_ok-strip_suffix.ensures.cases in
    let text = c.in_ok-strip_suffix.field-0.now in
    let ends : c.args.file.now ≡ text ++ c.args.ending.now = last.1.1 ∙ ap (λ (v : List ℕ). v ++ c.args.ending.now) (sym last.2) in
    where_none c.from_residual-in_err-front.result _
    (without_dot c.args.file.now c.args.ending.now text ends (split_dot text None c.in_err-front.ensures.cases))

pub returns-in_err-written_number-clause-none : goal.returns-in_err-written_number-clause-none
returns-in_err-written_number-clause-none c =
    let last = c.in_ok-strip_suffix.ensures.cases in
    let text = c.in_ok-strip_suffix.field-0.now in
    let ends : c.args.file.now ≡ text ++ c.args.ending.now = last.1.1 ∙ ap (λ (v : List ℕ). v ++ c.args.ending.now) (sym last.2) in
    where_none c.from_residual-in_err-written_number.result _
    (without_number c.args.file.now c.args.ending.now text c.in_ok-front.front.now c.in_ok-front.digits.now c.written_number.result ends
    (split_dot text (Some (c.in_ok-front.front, c.in_ok-front.digits)) c.in_ok-front.ensures.cases) c.written_number.ensures c.in_err-written_number.was)

pub returns-clause-named : goal.returns-clause-named
returns-clause-named c =
    let last = c.in_ok-strip_suffix.ensures.cases in
    let text = c.in_ok-strip_suffix.field-0.now in
    let ends : c.args.file.now ≡ text ++ c.args.ending.now = last.1.1 ∙ ap (λ (v : List ℕ). v ++ c.args.ending.now) (sym last.2) in
    staged c.args.file.now c.args.ending.now text c.in_ok-front.front.now c.in_ok-front.digits.now c.in_ok-written_number.field-0 ends
    (split_dot text (Some (c.in_ok-front.front, c.in_ok-front.digits)) c.in_ok-front.ensures.cases).0
    ((c.written_number.ensures c.in_ok-written_number.field-0).0 c.in_ok-written_number.was)
