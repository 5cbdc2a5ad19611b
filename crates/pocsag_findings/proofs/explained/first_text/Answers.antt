use Rattle.pocsag_findings.proofs.explained.first_text.Goals.{in-Lines+in_ok-text-in-Lines, in-Json+in_ok-text-in-Json, in-Drawing+in_ok-text-in-Drawing}
use Rattle.pocsag_findings.proofs.explained.first_text.Goals as goal

pub returns : goal.returns
returns c =
    elim c.match-format.branch [
      | in-Lines+in_ok-text-in-Lines w ↦ rw (w.in-Lines.is, w.text-is) w.in_ok-text-in-Lines.ensures
      | in-Json+in_ok-text-in-Json w ↦ rw (w.in-Json.is, w.text-is) w.in_ok-text-in-Json.ensures
      | in-Drawing+in_ok-text-in-Drawing w ↦ rw (w.in-Drawing.is, w.text-is) w.in_ok-text-in-Drawing.ensures
    ]
