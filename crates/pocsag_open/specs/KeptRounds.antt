-- A round that a journal keeps, from its start on (this project's own).
use Rattle.std.specs.Prelude.{◌≡◌, ◌⊎◌, ℕ, ◌<◌, ◌==◌, if◌then◌else◌, List, [], ◌∷◌, ◌++◌, codes, length, Option, Some, None, Ok, Err}
use Rattle.std.specs.Fmt.{decimal}
use Rattle.pocsag_words.specs.Devices.{HasFailed}
use Rattle.pocsag_words.specs.declared.device.Sink.{Ghosts as Writer}
use Rattle.pocsag_pages.specs.PageFile.{verdict}
use Rattle.pocsag_pages.specs.declared.fault.RoundFault.TheVariants as round
use Rattle.pocsag_pages.specs.declared.page.Page.{Page}
use Rattle.pocsag_plan.specs.declared.search.OnLimit.{OnLimit}
use Rattle.pocsag_shell.specs.declared.fault.FileFault.{FileFault}
use Rattle.pocsag_journal.specs.Crashes.{RestartsAs}
use Rattle.pocsag_journal.specs.Faults.{HasNoLine, IsPrinted}
use Rattle.pocsag_journal.specs.Journals.{IsRead, Replays, journal_limit}
use Rattle.pocsag_journal.specs.declared.fault.JournalFault.TheVariants as journal
use Rattle.pocsag_open.specs.Plans.{PlacementResult}
use Rattle.pocsag_open.specs.Survival.{ReadsAfterLines, Survives}
use Rattle.pocsag_open.specs.declared.fault.OpenFault.{OpenFault}
use Rattle.pocsag_open.specs.declared.fault.OpenFault.TheVariants as fault
use Rattle.pocsag_open.specs.declared.kept_streams.TornLine.{TornLine}
use Rattle.pocsag_open.specs.declared.kept_streams.TornLine.TheVariants.{CutOff, PassedOver}

-- *Beginning*: a kept round begins with the pages as which its journal is read; or with those of a page file, where one is given
-- and the journal holds no edit.
abbrev pub IsBeginning : (bytes : List ℕ) → (file : Option (List ℕ)) → List Page → Type 0
IsBeginning bytes None pages = RestartsAs bytes pages
IsBeginning bytes (Some file) pages = (verdict file ≡ Ok pages) × ((torn : List ℕ) × IsRead bytes [] torn)

-- The bytes are read as the pages with which the round begins.
abbrev pub ReadsBeginning : (bytes : List ℕ) → (file : Option (List ℕ)) → (left : List ℕ) → Type 0
ReadsBeginning bytes file left = (before : List Page) × IsBeginning bytes file before × RestartsAs left before

-- *At any moment*: one that is left might have been left before; or it is read as the pages after some of the first lines of the
-- input, none of them left out, from the beginning on.
abbrev pub ReadsKept : (IsKnown OutputFails : Type 0) → OnLimit → (input bytes : List ℕ) → (file : Option (List ℕ)) → (could_leave : List ℕ → Type 0) → (left : List ℕ) → Type 0
ReadsKept IsKnown OutputFails on_limit input bytes file could_leave left =
    could_leave left ⊎ ((before : List Page) × IsBeginning bytes file before × ReadsAfterLines IsKnown OutputFails on_limit input before RestartsAs left)

-- *Kept*: no line was answered, and whatever a crash leaves might have been left before, or is read as the beginning; or the round
-- survives from its beginning on.
pub data IsKeptRound (IsKnown OutputFails : Type 0) (on_limit : OnLimit) (input bytes : List ℕ) (file : Option (List ℕ)) (out_before out_after : List ℕ)
    (placed_before placed_after : List PlacementResult) (could_leave may_leave : List ℕ → Type 0) : Type 0 where
  not_begun :
      out_after ≡ out_before → ((left : List ℕ) → may_leave left → could_leave left ⊎ ReadsBeginning bytes file left) →
      IsKeptRound IsKnown OutputFails on_limit input bytes file out_before out_after placed_before placed_after could_leave may_leave
  begun :
      (before : List Page) → IsBeginning bytes file before →
      Survives IsKnown OutputFails on_limit input before out_before out_after placed_before placed_after RestartsAs may_leave →
      IsKeptRound IsKnown OutputFails on_limit input bytes file out_before out_after placed_before placed_after could_leave may_leave

-- The text for one of something, or that for none or more.
abbrev pub for_count : (count : ℕ) → (one other : List ℕ) → List ℕ
for_count count one other = if count == 1 then one else other

-- What becomes of a torn line of so many bytes.
unfoldable pub torn_end : TornLine → (bytes : ℕ) → List ℕ
torn_end CutOff bytes = for_count bytes (codes " byte is cut off" ++ (10 ∷ [])) (codes " bytes is cut off" ++ (10 ∷ []))
torn_end PassedOver bytes = for_count bytes (codes " byte is passed over" ++ (10 ∷ [])) (codes " bytes is passed over" ++ (10 ∷ []))

-- The line on the bytes of a torn end, if there are any.
unfoldable pub torn_text : TornLine → (torn : ℕ) → List ℕ
torn_text line torn = if torn == 0 then [] else codes "pocsag: a torn line of " ++ (decimal torn ++ torn_end line torn)

-- What is printed of a journal that was read: that line, and one on its edits and the pages with which the round begins.
unfoldable pub read_text : TornLine → (torn edits pages : ℕ) → List ℕ
read_text line torn edits pages =
    torn_text line torn ++ (codes "pocsag: " ++ (decimal edits ++ (for_count edits (codes " edit read, ") (codes " edits read, ")
    ++ (decimal pages ++ for_count pages (codes " page" ++ (10 ∷ [])) (codes " pages" ++ (10 ∷ []))))))

-- This was printed of a journal of these bytes, whose torn line is cut off; or the writer failed.
pub record HasPrintedRead {E : Type 0} (Err : Writer E) (bytes : List ℕ) (file : Option (List ℕ)) (before after : E) : Type 0 where
  pub edits : ℕ
  pub torn : ℕ
  pub kept : List Page
  pub read : Replays bytes edits torn kept
  pub pages : List Page
  pub begins : IsBeginning bytes file pages
  pub printed : (Err.is_known → Err.taken after ≡ Err.taken before ++ read_text CutOff torn edits (length pages))
      ⊎ HasFailed (Err.failures before) (Err.failures after)

-- There is a page file, and it failed between these two counts of failures.
abbrev pub HasFileFailed : (before after : Option ℕ) → Type 0
HasFileFailed (Some before) (Some after) = HasFailed before after
HasFileFailed _ _ = ⊥

-- *Cause of a refused start or an end*: why the round ends before its input; that the bytes of the journal are none, or too many, or
-- that no line of it holds a page with which the round begins; that the page file has this fault, or a read of it failed, or memory
-- was wanting; or that there is a page file and the bytes are read as one edit at least.
abbrev pub ExplainsKept : (bytes : List ℕ) → (file : Option (List ℕ)) → (file_failed : Type 0) → (Ends : FileFault → Type 0) → OpenFault → Type 0
ExplainsKept bytes file file_failed Ends (fault.File f) = Ends f
ExplainsKept bytes file file_failed Ends (fault.Journal journal.TooLarge) = journal_limit < length bytes
ExplainsKept bytes file file_failed Ends (fault.Journal (journal.NoLine n)) = (before : List Page) × IsBeginning bytes file before × HasNoLine before n
ExplainsKept bytes file file_failed Ends (fault.Journal journal.OutOfMemory) = ⊥
ExplainsKept bytes file file_failed Ends (fault.Journal f) = IsPrinted bytes f
ExplainsKept bytes (Some file) file_failed Ends (fault.Round round.OutOfMemory) = Unit {0}
ExplainsKept bytes (Some file) file_failed Ends (fault.Round round.ReadFault) = file_failed
ExplainsKept bytes (Some file) file_failed Ends (fault.Round f) = verdict file ≡ Err f
ExplainsKept bytes (Some file) file_failed Ends fault.HoldsEdits =
    (edits torn : ℕ) × (pages : List Page) × Replays bytes edits torn pages × (0 < edits)
ExplainsKept bytes file file_failed Ends _ = ⊥
