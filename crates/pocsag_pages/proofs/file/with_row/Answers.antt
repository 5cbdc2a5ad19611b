use Rattle.pocsag_pages.proofs.Prelude.{[], ◌∷◌, ◌∙◌, length, inr, refl, ap, arith, Ok, lt-leb, page_limit, pages_of}
use Rattle.std.proofs.Common.{length-append}
use Rattle.pocsag_pages.proofs.file.with_row.Goals as goal

pub returns-in-Ok-Some-clause-longer : goal.returns-in-Ok-Some-clause-longer
unfolding pages_of
returns-in-Ok-Some-clause-longer c =
    let longer = rw c.in-Ok-Some.field-0-is at c.in-Ok-Some.ensures.longer in
    rw c.in_ok-page.ensures.ok longer

pub returns-in-Ok-Some-clause-one : goal.returns-in-Ok-Some-clause-one
returns-in-Ok-Some-clause-one c =
    let longer = rw c.in-Ok-Some.field-0-is at c.in-Ok-Some.ensures.longer in
    omega (arith, ap length longer, length-append c.args.builder (c.in_ok-page.page ∷ []))

pub returns-in-Ok-Some-clause-fine : goal.returns-in-Ok-Some-clause-fine
returns-in-Ok-Some-clause-fine c =
    let another = rw c.in-Ok-Some.field-0-is at c.in-Ok-Some.ensures.another in
    rw (c.in_ok-page.ensures.ok, another, lt-leb page_limit c.args.earlier (omega arith)) refl

pub returns-in-Ok-None-clause-err : goal.returns-in-Ok-None-clause-err
returns-in-Ok-None-clause-err c =
    let again = c.with.ensures.again (c.in-Ok-None.is ∙ ap Ok c.in-Ok-None.field-0-is) in
    inr (rw (c.in_ok-page.ensures.ok, again) refl)
