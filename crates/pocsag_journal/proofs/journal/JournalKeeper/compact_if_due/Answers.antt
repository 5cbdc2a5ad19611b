use Rattle.pocsag_journal.proofs.Prelude.{ℕ, List, refl, ◌∙◌, subst, Page, IsDue, small, ListsPages, disk_of}
use Rattle.pocsag_journal.proofs.ByteCounts.{times_at_most}
use Rattle.pocsag_journal.proofs.journal.JournalKeeper.compact_if_due.Goals as goal

pub returns-then-len-saturating_mul-clause-compacted : goal.returns-then-len-saturating_mul-clause-compacted
returns-then-len-saturating_mul-clause-compacted g c = λ is_known held.
    let all = (held is_known).0.counted.all in
    small c.in-Ok.text.items
    (subst (λ (n : ℕ). IsDue c.args.self.now.sizes.counted n) all (c.is_due.ensures.0 c.if-not-is_due.false))
    (subst (λ (ps : List Page). ListsPages c.in-Ok.text.items ps) c.pages.ensures.pages c.in-Ok.ensures.listed)
    (times_at_most (g.D.Disk.held (disk_of c.args.self.now)) c.in-Ok.text.items c.args.self.now.sizes.len c.saturating_mul.result c.len.result
    all c.if-len-saturating_mul.true (c.len.ensures ∙ c.in-Ok.text.ok.0) c.saturating_mul.ensures)
    refl all
