use Rattle.pocsag_findings.proofs.Prelude.{string_bytes, refl, rules}
use Rattle.pocsag_findings.proofs.Beginnings.{members_begin}
use Rattle.pocsag_findings.proofs.json.verdict.Goals.{in-Open, in-Closed, in-Idle}
use Rattle.pocsag_findings.proofs.json.verdict.Goals as goal

pub returns : goal.returns
returns c =
    members_begin string_bytes c.format.result _ c.format.ensures.ok c.args.explanation.now.is_shown c.args.explanation.now.batches c.match-explanation.end.now _
    c.args.explanation.now.refuted.end
    (elim c.match-explanation.branch [
      | in-Open w ↦ rw w.in-Open.is (search (rules, w.end-is))
      | in-Closed w ↦ rw w.in-Closed.is (search (rules, w.end-is))
      | in-Idle w ↦ rw w.in-Idle.is (search (rules, w.end-is))
    ])
    refl
