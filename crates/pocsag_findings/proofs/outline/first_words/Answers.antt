use Rattle.pocsag_findings.proofs.Prelude.{string_bytes, refl, rules}
use Rattle.pocsag_findings.proofs.Beginnings.{words_begin}
use Rattle.pocsag_findings.proofs.outline.first_words.Goals.{then-batches-eq1, else-batches-eq1, in-Open, in-Closed, in-Idle}
use Rattle.pocsag_findings.proofs.outline.first_words.Goals as goal

pub returns : goal.returns
returns c =
    rw c.if-not-explanation.false
    (words_begin string_bytes c.format-2.result _ c.format-2.ensures.ok c.args.explanation.now.batches c.if-batches-eq1.noun.now c.match-explanation.end.now _
    c.args.explanation.now.refuted.end
    (elim c.if-batches-eq1.branch [ then-batches-eq1 w ↦ search (rules, w.noun-is) | else-batches-eq1 w ↦ search (rules, w.noun-is) ])
    (elim c.match-explanation.branch [
      | in-Open w ↦ rw w.in-Open.is (search (rules, w.end-is))
      | in-Closed w ↦ rw w.in-Closed.is (search (rules, w.end-is))
      | in-Idle w ↦ rw w.in-Idle.is (search (rules, w.end-is))
    ])
    refl)
