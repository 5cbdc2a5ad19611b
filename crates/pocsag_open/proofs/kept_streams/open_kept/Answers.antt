use Rattle.pocsag_open.proofs.Prelude.{◌≡◌, ◌⊎◌, ◌∙◌, ◌++◌, inl, inr, ℕ, refl, rules, subst, option_map, HasFailed, journal_limit, IsHeld, disk_of, AreCountless, HasGivenUp, HasFileFailed, HasPrintedRead, ReadsKept, not_begun, read_text, HasFailedOutput, FileFault, LeavesOnly}
use Rattle.std.proofs.lemmas.Result.{err_from_is_err_and}
use Rattle.pocsag_open.specs.KeptRounds.{begun}
use Rattle.pocsag_open.specs.declared.kept_streams.TornLine.TheVariants.{CutOff}
use Rattle.pocsag_open.proofs.Ends.{wider}
use Rattle.pocsag_open.proofs.Fronts.{if_err}
use Rattle.pocsag_open.proofs.ReadJournals.{printed_or_failed}
use Rattle.pocsag_open.proofs.KeptRounds.{anew_explains, left_anew, left_read, of_disk, only_anew, only_kept}
use Rattle.pocsag_open.proofs.kept_streams.open_kept.Goals.{After-run_open_kept, In_ok-compact}
use Rattle.pocsag_open.proofs.kept_streams.open_kept.Goals as goal

pub returns-in_err-round-clause-survives : goal.returns-in_err-round-clause-survives
returns-in_err-round-clause-survives g c = λ d f i o. not_begun refl (λ left now. inl (left_read g.D.Disk d (c.read.ensures.any_moment d) left now))

pub returns-in_err-compact-clause-survives : goal.returns-in_err-compact-clause-survives
returns-in_err-compact-clause-survives g c = λ d f i o.
    let begins = c.in_ok-round.ensures.begins f (g.D.Disk.held (disk_of c.args.round.now.keeper)) (c.in_ok-replayed.ensures.read d) (c.in_ok-replayed.ensures.few d) in
    not_begun refl (left_anew g.D.Disk d (c.read.ensures.any_moment d) _ _ begins (c.compact.ensures.any_moment d))

pub returns-in_err-compact-clause-any_moment : goal.returns-in_err-compact-clause-any_moment
returns-in_err-compact-clause-any_moment g c = λ d f i o.
    let begins = c.in_ok-round.ensures.begins f (g.D.Disk.held (disk_of c.args.round.now.keeper)) (c.in_ok-replayed.ensures.read d) (c.in_ok-replayed.ensures.few d) in
    only_anew g.D.Disk d (c.read.ensures.any_moment d) _ _ begins (c.compact.ensures.any_moment d)

pub returns-in_err-compact-clause-explained : goal.returns-in_err-compact-clause-explained
returns-in_err-compact-clause-explained g c = λ d f i.
    let begins = c.in_ok-round.ensures.begins f (g.D.Disk.held (disk_of c.args.round.now.keeper)) (c.in_ok-replayed.ensures.read d) (c.in_ok-replayed.ensures.few d) in
    let cause = anew_explains (g.D.Disk.held (disk_of c.args.round.now.keeper)) (option_map g.F.Source.held c.args.streams.now.pages)
    (HasFileFailed (option_map g.F.Source.failures c.args.streams.now.pages) (option_map g.F.Source.failures c.first_book.new.pages))
    (HasFailed (g.D.Disk.failures (disk_of c.args.round.now.keeper)) (g.D.Disk.failures (disk_of c.compact.new.self))
    ⊎ HasFailed (g.I.Source.failures c.args.streams.now.input) (g.I.Source.failures c.args.streams.now.input)
    ⊎ AreCountless (g.I.Source.held c.args.streams.now.input))
    (HasFailed (g.O.Sink.failures c.args.streams.now.out) (g.O.Sink.failures c.args.streams.now.out))
    (HasGivenUp journal_limit (g.D.Disk.held (disk_of c.compact.new.self))
    (g.D.Disk.failures (disk_of c.args.round.now.keeper)) (g.D.Disk.failures (disk_of c.compact.new.self)))
    _ _ c.in_ok-round.field-0 c.in_err-compact.field-0.0 begins
    (λ failed. inl (subst (λ (n : ℕ). HasFailed n (g.D.Disk.failures (disk_of c.compact.new.self))) (c.in_ok-replayed.ensures.succeeded d) failed))
    (c.in_err-compact.ensures.explained d) in
    search (rules, cause)

-- the journal that is written anew stands for the pages
stands : (g : _) (c : In_ok-compact g) → g.D.Disk.is_known → IsHeld c.compact.new.self (g.D.Disk.held (disk_of c.compact.new.self))
    (g.D.Disk.may_leave (disk_of c.compact.new.self)) c.in_ok-round.field-0 × g.D.Disk.is_sound (disk_of c.compact.new.self)
stands g c known = (
  record { stands = (c.in_ok-compact.ensures.adds known).stands; counted = c.in_ok-compact.ensures.measured known; safe = c.in_ok-compact.ensures.safe known },
  c.in_ok-compact.ensures.sound known,
)

pub returns-clause-survives : goal.returns-clause-survives
returns-clause-survives g c = λ d f i o.
    let begins = c.in_ok-round.ensures.begins f (g.D.Disk.held (disk_of c.args.round.now.keeper)) (c.in_ok-replayed.ensures.read d) (c.in_ok-replayed.ensures.few d) in
    let held = stands g (goal.at.returns-clause-survives g c).In_ok-compact in
    begun c.in_ok-round.field-0 begins (c.run_open_kept.ensures.survives d i o held)

moments : (g : _) (c : After-run_open_kept g) → g.D.Disk.is_known → g.F.Source.is_known → g.I.Source.is_known → g.O.Sink.is_known →
    (g.D.Disk.is_known → IsHeld c.compact.new.self (g.D.Disk.held (disk_of c.compact.new.self))
    (g.D.Disk.may_leave (disk_of c.compact.new.self)) c.in_ok-round.field-0 × g.D.Disk.is_sound (disk_of c.compact.new.self)) →
    LeavesOnly g.D.Disk.moment g.D.Disk.left_since (disk_of c.args.round.now.keeper) (disk_of c.run_open_kept.new.round.keeper)
    (ReadsKept g.P.OutputStore.is_known (HasFailedOutput g.P.Output.Sink.failures) c.args.settings.now.on_limit (g.I.Source.held c.args.streams.now.input)
    (g.D.Disk.held (disk_of c.args.round.now.keeper)) (option_map g.F.Source.held c.args.streams.now.pages) (g.D.Disk.may_leave (disk_of c.args.round.now.keeper)))
moments g c d f i o held =
    let begins = c.in_ok-round.ensures.begins f (g.D.Disk.held (disk_of c.args.round.now.keeper)) (c.in_ok-replayed.ensures.read d) (c.in_ok-replayed.ensures.few d) in
    only_kept g.D.Disk d (c.read.ensures.any_moment d) _ _ begins (c.compact.ensures.any_moment d)
    (of_disk g.D.Disk.moment g.D.Disk.left_since _ _ _ (c.run_open_kept.ensures.any_moment d i o held))

pub returns-clause-any_moment : goal.returns-clause-any_moment
returns-clause-any_moment g c = λ d f i o. moments g (goal.at.returns-clause-any_moment g c).After-run_open_kept d f i o (stands g (goal.at.returns-clause-any_moment g c).In_ok-compact)

pub returns-in_err-run_open_kept-clause-survives : goal.returns-in_err-run_open_kept-clause-survives
returns-in_err-run_open_kept-clause-survives g c = λ d f i o.
    let begins = c.in_ok-round.ensures.begins f (g.D.Disk.held (disk_of c.args.round.now.keeper)) (c.in_ok-replayed.ensures.read d) (c.in_ok-replayed.ensures.few d) in
    let held = stands g (goal.at.returns-in_err-run_open_kept-clause-survives g c).In_ok-compact in
    begun c.in_ok-round.field-0 begins (c.run_open_kept.ensures.survives d i o held)

pub returns-in_err-run_open_kept-clause-any_moment : goal.returns-in_err-run_open_kept-clause-any_moment
returns-in_err-run_open_kept-clause-any_moment g c = λ d f i o. moments g (goal.at.returns-in_err-run_open_kept-clause-any_moment g c).After-run_open_kept d f i o (stands g (goal.at.returns-in_err-run_open_kept-clause-any_moment g c).In_ok-compact)

pub returns-in_err-run_open_kept-clause-explained : goal.returns-in_err-run_open_kept-clause-explained
returns-in_err-run_open_kept-clause-explained g c = λ d f i.
    let held = stands g (goal.at.returns-in_err-run_open_kept-clause-explained g c).In_ok-compact in
    let same : g.D.Disk.failures (disk_of c.compact.new.self) ≡ g.D.Disk.failures (disk_of c.args.round.now.keeper) =
    c.in_ok-compact.ensures.succeeded d ∙ c.in_ok-replayed.ensures.succeeded d in
    let p = err_from_is_err_and c.from_residual-in_err-run_open_kept.result c.from_residual-in_err-run_open_kept.ensures.1 in
    rw (p.1, p.2) (wider _ _ _ _ _ _ c.in_err-run_open_kept.field-0.0 (λ cause. inr cause) (λ cause. cause)
    (λ cause. subst (λ (n : ℕ). HasGivenUp journal_limit (g.D.Disk.held (disk_of c.run_open_kept.new.round.keeper)) n
    (g.D.Disk.failures (disk_of c.run_open_kept.new.round.keeper))) same cause)
    (c.in_err-run_open_kept.ensures.explained i d held))

-- what was read of the journal was printed
told : (g : _) (c : After-run_open_kept g) → g.D.Disk.is_known → g.F.Source.is_known →
    HasPrintedRead g.E.Sink (g.D.Disk.held (disk_of c.args.round.now.keeper)) (option_map g.F.Source.held c.args.streams.now.pages)
    c.args.streams.now.err c.print_read.new.err
told g c d f =
    let read = c.in_ok-replayed.ensures.read d in
    let text = read_text CutOff c.in_ok-replayed.replayed.torn c.in_ok-replayed.replayed.edits c.len.result in
    let said : (g.E.Sink.is_known → g.E.Sink.taken c.print_read.new.err ≡ g.E.Sink.taken c.args.streams.now.err ++ text)
    ⊎ HasFailed (g.E.Sink.failures c.args.streams.now.err) (g.E.Sink.failures c.print_read.new.err) =
    printed_or_failed {F = FileFault} g.E.Sink c.args.streams.now.err c.print_read.new.err text c.print_read.result
    (λ known. c.print_read.ensures.printed known) c.print_read.ensures.failures in
    record {
      edits = c.in_ok-replayed.replayed.edits;
      torn = c.in_ok-replayed.replayed.torn;
      kept = c.in_ok-replayed.replayed.book;
      read = read;
      pages = c.in_ok-round.field-0;
      begins = c.in_ok-round.ensures.begins f (g.D.Disk.held (disk_of c.args.round.now.keeper)) read (c.in_ok-replayed.ensures.few d);
      printed = rw c.len.ensures at said;
    }

pub returns-clause-told : goal.returns-clause-told
returns-clause-told g c = λ d f. told g (goal.at.returns-clause-told g c).After-run_open_kept d f

pub returns-in_err-run_open_kept-clause-untold : goal.returns-in_err-run_open_kept-clause-untold
returns-in_err-run_open_kept-clause-untold g c = λ d f.
    if_err c.from_residual-in_err-run_open_kept.result _ (inr (told g (goal.at.returns-in_err-run_open_kept-clause-untold g c).After-run_open_kept d f))
