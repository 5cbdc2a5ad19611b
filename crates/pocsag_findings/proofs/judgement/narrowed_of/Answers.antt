use Rattle.pocsag_findings.proofs.Prelude.{refl, sym, ◌∙◌, rules, append-nil, joined_none}
use Rattle.pocsag_findings.proofs.Narrows.{narrowed_next}
use Rattle.pocsag_findings.proofs.judgement.narrowed_of.Goals as goal
use Rattle.pocsag_findings.proofs.judgement.narrowed_of.Goals.{then-is_narrower+in_ok-push, else-is_narrower}

pub loop-number-init : goal.loop-number-init
loop-number-init c = c.new-found.ensures.items ∙ sym (joined_none _)

pub loop-number-preserved : goal.loop-number-preserved
loop-number-preserved c =
    narrowed_next c.args.context.now.classes.now c.args.limits.now c.loop-number.number _ c.is_narrower.result
    c.loop-number.found.items _ refl c.is_narrower.ensures c.loop-number.invariant
    (elim c.if-is_narrower.branch [
      | then-is_narrower+in_ok-push w ↦ rw w.if-is_narrower.true (search rules)
      | else-is_narrower w ↦ rw (w.if-is_narrower.false, append-nil) (search rules)
    ])
