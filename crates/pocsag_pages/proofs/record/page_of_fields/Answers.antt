use Rattle.pocsag_pages.proofs.Prelude.{◌≡◌, sym, ap, ◌∙◌, function_of}
use Rattle.pocsag_pages.proofs.RecordPages.{good_record}
use Rattle.pocsag_pages.proofs.record.page_of_fields.Goals as goal
use Rattle.pocsag_pages.proofs.record.page_of_fields.Goals.{in-Tone, in-Numeric, in-Alpha}

pub returns-clause-good : goal.returns-clause-good
returns-clause-good c =
    let low = c.in-Some.ensures.low in
    let known = c.in-Some-parse_kind.ensures.known in
    let payload = c.in_ok-payload.ensures in
    let is : c.match-kind.function ≡ function_of c.in-Some-parse_kind.kind =
    elim c.match-kind.branch [
      | in-Tone w ↦ w.function-is ∙ ap function_of (sym w.in-Tone.is)
      | in-Numeric w ↦ w.function-is ∙ ap function_of (sym w.in-Numeric.is)
      | in-Alpha w ↦ w.function-is ∙ ap function_of (sym w.in-Alpha.is)
    ] in
    rw is
    (good_record _ c.in-Some-parse_kind.kind c.in_ok-payload.payload low (sym c.is_reserved_address.ensures ∙ c.if-is_reserved_address.false)
    known payload.silent payload.few payload.small)
