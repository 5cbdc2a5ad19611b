use Rattle.pocsag_journal.proofs.Prelude.{◌≡◌, inl, ℕ, ◌+◌, ◌≤◌, arith, List, ◌++◌, length, sym, ap, ◌∙◌, subst, fields_of, default_writer, row_text, ReadsAsEither, IsWholeLine, IsTorn, RestartsAs, LeavesOnly, IsEdit, IsHeld, disk_of, Page, journal_limit}
use Rattle.pocsag_journal.proofs.Moments.{goes_on}
use Rattle.pocsag_journal.proofs.ByteCounts.{sum_is}
use Rattle.pocsag_journal.proofs.KeptPages.{stands_on}
use Rattle.pocsag_journal.proofs.TornLines.{on_journal, torn_reads, unwritten}
use Rattle.pocsag_journal.proofs.journal.JournalKeeper.keep.Goals.{After-append}
use Rattle.pocsag_journal.proofs.journal.JournalKeeper.keep.Goals as goal

pub returns-then-not-is_one_line-clause-any_moment : goal.returns-then-not-is_one_line-clause-any_moment
returns-then-not-is_one_line-clause-any_moment g c = λ is_known before after held edit.
    on_journal g.D.Disk.moment g.D.Disk.left_since g.D.Disk.held g.D.Disk.may_leave _ _ _
    (unwritten g.D.Disk.moment g.D.Disk.left_since g.D.Disk.held g.D.Disk.may_leave c.args.self.now before (ReadsAsEither RestartsAs before after)
    (λ left since. g.D.Disk.only_now c.args.self.now.disk left is_known since) ((held is_known).0) (λ left is. inl is))

-- what a crash leaves once the disk was given the line
either : (g : _) (c : After-append g) → g.D.Disk.is_known → (before after : List Page) →
    IsHeld c.args.self.now (g.D.Disk.held (disk_of c.args.self.now)) (g.D.Disk.may_leave (disk_of c.args.self.now)) before →
    IsEdit (fields_of c.args.row.now) before after → (left : List ℕ) → g.D.Disk.may_leave c.append.new.self left →
    ReadsAsEither RestartsAs before after left
either g c is_known before after held edit left now =
    let line = c.as_slice-2.result.now in
    let text : line ≡ row_text default_writer (fields_of c.args.row.now) = c.as_slice-2.ensures.value ∙ c.in_ok-line.ensures in
    let whole : IsWholeLine line =
    subst IsWholeLine (c.as_slice.ensures.value ∙ sym c.as_slice-2.ensures.value) (c.is_one_line.ensures.0 c.if-not-is_one_line.false) in
    let long : c.len.result ≡ length line = c.len.ensures ∙ c.in_ok-line.line.ok.0 ∙ ap length (sym c.as_slice-2.ensures.value) in
    let fits : length (g.D.Disk.held c.args.self.now.disk) + length line ≤ journal_limit =
    omega (arith, held.counted.all, long, c.saturating_add-len.ensures, c.if-len-gt-JOURNAL_LIMIT.false) in
    let from = c.append.ensures.crash is_known left now in
    torn_reads (g.D.Disk.held c.args.self.now.disk) line left (fields_of c.args.row.now) before after held.stands text whole edit fits
    (subst (λ (was : List ℕ). IsTorn line was left) (held.safe from.0 from.1) from.2)

appended : (g : _) (c : After-append g) → g.D.Disk.is_known → (before after : List Page) →
    IsHeld c.args.self.now (g.D.Disk.held (disk_of c.args.self.now)) (g.D.Disk.may_leave (disk_of c.args.self.now)) before →
    IsEdit (fields_of c.args.row.now) before after →
    LeavesOnly g.D.Disk.moment g.D.Disk.left_since c.args.self.now.disk c.append.new.self (ReadsAsEither RestartsAs before after)
appended g c is_known before after held edit =
    goes_on g.D.Disk.moment g.D.Disk.left_since _ _ c.append.new.self _ (g.D.Disk.may_leave c.append.new.self)
    (unwritten g.D.Disk.moment g.D.Disk.left_since g.D.Disk.held g.D.Disk.may_leave c.args.self.now before (ReadsAsEither RestartsAs before after)
    (λ left since. g.D.Disk.only_now c.args.self.now.disk left is_known since) held (λ left is. inl is))
    (c.append.ensures.time is_known) (either g c is_known before after held edit)

pub returns-in_default-clause-any_moment : goal.returns-in_default-clause-any_moment
returns-in_default-clause-any_moment g c = λ is_known before after held edit.
    on_journal g.D.Disk.moment g.D.Disk.left_since g.D.Disk.held g.D.Disk.may_leave _ _ _
    (appended g (goal.at.returns-in_default-clause-any_moment g c).After-append is_known before after (held is_known).0 edit)

pub returns-in_default-sync-clause-any_moment : goal.returns-in_default-sync-clause-any_moment
returns-in_default-sync-clause-any_moment g c = λ is_known before after held edit.
    let put = (goal.at.returns-in_default-sync-clause-any_moment g c).After-append in
    on_journal g.D.Disk.moment g.D.Disk.left_since g.D.Disk.held g.D.Disk.may_leave _ _ _
    (goes_on g.D.Disk.moment g.D.Disk.left_since _ _ c.sync.new.self _ (g.D.Disk.may_leave c.sync.new.self)
    (appended g put is_known before after (held is_known).0 edit) (c.sync.ensures.time is_known)
    (λ left now. either g put is_known before after (held is_known).0 edit left (c.sync.ensures.crash is_known left now)))

pub returns-clause-any_moment : goal.returns-clause-any_moment
returns-clause-any_moment g c = λ is_known before after held edit.
    let put = (goal.at.returns-clause-any_moment g c).After-append in
    on_journal g.D.Disk.moment g.D.Disk.left_since g.D.Disk.held g.D.Disk.may_leave _ _ _
    (goes_on g.D.Disk.moment g.D.Disk.left_since _ _ c.sync.new.self _ (g.D.Disk.may_leave c.sync.new.self)
    (appended g put is_known before after (held is_known).0 edit) (c.sync.ensures.time is_known)
    (λ left now. either g put is_known before after (held is_known).0 edit left (c.sync.ensures.crash is_known left now)))

pub returns-clause-stands : goal.returns-clause-stands
returns-clause-stands g c = λ before after held edit is_known.
    let text = g.D.Disk.held c.args.self.now.disk in
    let later = g.D.Disk.held c.sync.new.self in
    let grown : later ≡ text ++ c.in_ok-line.line.items =
    c.sync.ensures.same is_known ∙ (c.in-Ok.ensures.delivers is_known).0 ∙ ap (λ (t : List ℕ). text ++ t) c.as_slice-2.ensures.value in
    let sum = sum_is text c.in_ok-line.line.items later c.args.self.now.sizes.len c.len.result c.saturating_add-len.result ((held is_known).0).counted.all
    (c.len.ensures ∙ c.in_ok-line.line.ok.0) c.saturating_add-len.ensures c.if-len-gt-JOURNAL_LIMIT.false grown in (
      record {
        stands = stands_on text later (fields_of c.args.row.now) before after ((held is_known).0).stands
            (subst IsWholeLine (c.as_slice.ensures.value ∙ c.in_ok-line.ensures) (c.is_one_line.ensures.0 c.if-not-is_one_line.false)) edit
            (grown ∙ ap (λ (t : List ℕ). text ++ t) c.in_ok-line.ensures);
        counted = record {
          all = sum;
          readable = subst (λ (n : ℕ). n ≤ journal_limit) sum c.if-len-gt-JOURNAL_LIMIT.false;
        };
        safe = c.in-Ok-sync.ensures.safe is_known (c.append.ensures.sound is_known (held is_known).1);
      },
      c.in-Ok-sync.ensures.sound is_known (c.append.ensures.sound is_known (held is_known).1),
    )
