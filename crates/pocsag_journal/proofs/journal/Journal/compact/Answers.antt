use Rattle.pocsag_journal.proofs.Prelude.{◌⊎◌, ℕ, ◌≤◌, List, length, sym, ap, ◌∙◌, subst, Page, ListsPages, journal_limit, RestartsAs, LeavesOnly}
use Rattle.pocsag_journal.proofs.TornLines.{listed_short, put_anew}
use Rattle.pocsag_journal.proofs.journal.Journal.compact.Goals.{After-replace}
use Rattle.pocsag_journal.proofs.journal.Journal.compact.Goals as goal

lists : (g : _) (c : After-replace g) → ListsPages c.as_slice.result.now c.args.book.now
lists g c =
    subst (λ (t : List ℕ). ListsPages t c.args.book.now) (sym c.as_slice.ensures.value)
    (subst (λ (ps : List Page). ListsPages c.in_ok-text.text.items ps) c.pages.ensures.pages c.in_ok-text.ensures.listed)

replaced : (g : _) (c : After-replace g) → g.D.Disk.is_known →
    LeavesOnly g.D.Disk.moment g.D.Disk.left_since c.args.self.now.disk c.replace.new.self
    (λ left. g.D.Disk.may_leave c.args.self.now.disk left ⊎ RestartsAs left c.args.book.now)
replaced g c is_known =
    put_anew g.D.Disk.moment g.D.Disk.left_since g.D.Disk.held g.D.Disk.may_leave c.args.self.now.disk c.replace.new.self c.as_slice.result.now c.args.book.now
    (λ left since. g.D.Disk.only_now c.args.self.now.disk left is_known since) (lists g c) c.pages.ensures.few (c.replace.ensures.crash is_known)
    (c.replace.ensures.time is_known)

pub returns-in_default-clause-any_moment : goal.returns-in_default-clause-any_moment
returns-in_default-clause-any_moment g c = replaced g (goal.at.returns-in_default-clause-any_moment g c).After-replace

pub returns-clause-any_moment : goal.returns-clause-any_moment
returns-clause-any_moment g c = replaced g (goal.at.returns-clause-any_moment g c).After-replace

pub returns-clause-adds : goal.returns-clause-adds
returns-clause-adds g c = λ is_known.
    subst (λ (t : List ℕ). ListsPages t c.args.book.now) (sym (c.in-Ok.ensures.held is_known)) (lists g (goal.at.returns-clause-adds g c).After-replace)

pub returns-clause-measured : goal.returns-clause-measured
returns-clause-measured g c = λ is_known.
    let same = c.in-Ok.ensures.held is_known in
    record {
      all = c.len-len.ensures ∙ c.in_ok-text.text.ok.0 ∙ ap length (sym (same ∙ c.as_slice.ensures.value));
      readable = subst (λ (t : List ℕ). length t ≤ journal_limit) (sym same)
          (listed_short c.as_slice.result.now c.args.book.now (lists g (goal.at.returns-clause-measured g c).After-replace) c.pages.ensures.few);
    }
