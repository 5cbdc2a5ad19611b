use Rattle.pocsag_journal.proofs.Prelude.{ℕ, List, [], ap, ◌∙◌, subst, sym, length, IfErr, IfOk, MatchResult, Result, Ok, Err, Row, Page, IsRun, IsPrinted, IsPrintedOf, IsRead, Replays, ReplaysAs, JournalFault, Replayed}
use Rattle.pocsag_journal.specs.declared.fault.JournalFault.TheVariants as fault
use Rattle.pocsag_journal.proofs.EditRuns.{run_once}
use Rattle.pocsag_journal.proofs.Readings.{begun, no_bad_line, one_reading}
use Rattle.pocsag_journal.proofs.PrintedReplays.{told_of}
use Rattle.pocsag_journal.proofs.replay.read_journal.Goals as goal

-- whatever edits the bytes are the text of: these were read
these : (bytes : List ℕ) (r : Result Replayed JournalFault) → IfOk r (λ x. Replays bytes x.edits x.torn x.book) → IfErr r (IsPrinted bytes) →
    (rows : List Row) (torn : List ℕ) (pages : List Page) → IsRead bytes rows torn → IsRun rows [] pages →
    MatchResult r (λ x. ReplaysAs x.book x.edits x.torn pages rows torn) IsPrintedOf
these bytes (Ok x) read told rows torn pages is run =
    let one = one_reading bytes rows read.rows torn read.rest is read.read in (
      run_once rows [] x.book pages (subst (λ (l : List Row). IsRun l [] x.book) one.0 read.run) run,
      read.as_many ∙ ap length one.0,
      read.cut ∙ ap length one.1,
    )
these bytes (Err fault.NotJournal) read told rows torn pages is run = told.0 (begun bytes rows torn is)
these bytes (Err fault.OtherVersion) read told rows torn pages is run = told.0 (begun bytes rows torn is)
these bytes (Err (fault.BadLine n)) read told rows torn pages is run = no_bad_line bytes n told rows torn pages is run
these bytes (Err fault.OutOfMemory) read told rows torn pages is run = tt
these bytes (Err f) read told rows torn pages is run = absurd told

pub returns-in-Ok-clause-told : goal.returns-in-Ok-clause-told
returns-in-Ok-clause-told g c = λ is_known.
    told_of c.as_slice.result.now (g.S.Source.held c.args.source.now) _ _ (c.as_slice.ensures.value ∙ c.in-Ok.ensures.whole is_known)
    c.replay.result c.replay.ensures.told

pub returns-in-Ok-clause-replay : goal.returns-in-Ok-clause-replay
returns-in-Ok-clause-replay g c = λ is_known rows torn pages is run.
    these c.as_slice.result.now c.replay.result c.replay.ensures.read c.replay.ensures.told rows torn pages
    (subst (λ (b : List ℕ). IsRead b rows torn) (sym (c.as_slice.ensures.value ∙ c.in-Ok.ensures.whole is_known)) is) run
