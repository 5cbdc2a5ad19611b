use Rattle.pocsag_journal.proofs.Drafts.{dropped_draft}
use Rattle.pocsag_journal.proofs.draft.Draft.take_one.Goals as goal

pub invariant_of-self : goal.invariant_of-self
invariant_of-self c =
    rw c.pop_mru.ensures.entries (dropped_draft c.self.inside.pages.entries c.self.inside.pages.cap 1 c.self.invariant)
