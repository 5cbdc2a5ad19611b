use Rattle.pocsag_findings.proofs.Prelude.{string_bytes}
use Rattle.pocsag_findings.proofs.Beginnings.{begins_more, title_words}
use Rattle.pocsag_findings.proofs.drawing.drawing.Goals.{then-not-explanation+in_ok-refused+in_ok-push_str+in_ok-push_str-2, else-not-explanation}
use Rattle.pocsag_findings.proofs.drawing.drawing.Goals as goal

pub returns : goal.returns
returns c =
    title_words string_bytes c.page.result _ _
    (rw c.as_str-heading.ensures.value
    (elim c.if-not-explanation.branch [
      | then-not-explanation+in_ok-refused+in_ok-push_str+in_ok-push_str-2 w ↦
          rw w.heading-is
          (begins_more _ _ _ _ (begins_more _ _ _ _ c.in_ok-heading.ensures w.in_ok-push_str.ensures.bytes) w.in_ok-push_str-2.ensures.bytes)
      | else-not-explanation w ↦ rw w.heading-is c.in_ok-heading.ensures
    ]))
    c.page.ensures
