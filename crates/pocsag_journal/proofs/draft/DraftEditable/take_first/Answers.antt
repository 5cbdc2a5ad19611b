use Rattle.pocsag_journal.proofs.Prelude.{◌∙◌, ap, drop, drop-drop}
use Rattle.pocsag_journal.proofs.draft.DraftEditable.take_first.Goals as goal

pub loop-preserved : goal.loop-preserved
loop-preserved c = c.take_one-gone.ensures.rest ∙ (ap (drop 1) c.loop.invariant ∙ drop-drop 1 c.loop.counter c.args.self.now)
