use Rattle.pocsag_journal.proofs.Drafts.{no_draft}
use Rattle.pocsag_journal.proofs.draft.DraftEditable.clear.Goals as goal

pub invariant_of-self : goal.invariant_of-self
invariant_of-self c = rw c.clear.ensures (no_draft c.self.inside.pages.cap c.self.invariant.roomy)
