-- What an open round replies to its lines (this project's own).
use Rattle.std.specs.Prelude.{◌≡◌, ◌≢◌, ◌⊎◌, ℕ, ◌<◌, ◌≤◌, List, [], ◌∷◌, ◌++◌, drop, length, Option, Some, None}
use Rattle.std.specs.Str.{IsUtf8}
use Rattle.pocsag_words.specs.declared.ending.End.{End}
use Rattle.pocsag_pages.specs.PageFile.{Row}
use Rattle.pocsag_pages.specs.declared.page.Page.{Page}
use Rattle.pocsag_decode.specs.PageFiles.{page_file}
use Rattle.pocsag_plan.specs.declared.search.OnLimit.{OnLimit}
use Rattle.pocsag_journal.specs.Asks.{AsksPlan, list_record}
use Rattle.pocsag_journal.specs.Runs.{IsEdit, IsReasonFor, IsRefusedFor, asked_of, first_record}
use Rattle.pocsag_pages.specs.RecordTexts.{IsRowText}
use Rattle.pocsag_journal.specs.LineTexts.{IsUnread, record_text}
use Rattle.pocsag_journal.specs.declared.refusal.Refusal.{Refusal}
use Rattle.pocsag_journal.specs.declared.refusal.Refusal.TheVariants as refusal
use Rattle.pocsag_journal.specs.declared.refusal.UndoneFault.{UndoneFault}
use Rattle.pocsag_journal.specs.declared.refusal.UndoneFault.TheVariants as undone
use Rattle.pocsag_open.specs.Answers.{pages_answer, plan_answer, refusal_answer}
use Rattle.pocsag_open.specs.Lines.{AreLines, line_limit}
use Rattle.pocsag_open.specs.Plans.{ArePlacesOfRefused, ExplainsPlanUndone, IsFrontPlanned, IsPlanned, PlacementResult, PlanBytes, placed_plan}

-- The line that reports a refusal: `refused: ` and its words.
abbrev pub IsRefusalPrinted : Refusal → (printed : List ℕ) → Type 0
IsRefusalPrinted why printed = printed ≡ refusal_answer why

-- The reason is that of a plan which the record asks for, and it applies to the plan of these pages for that end; and this became
-- of the two places that the record names.
pub record IsPlanRefused (OutputFails : Type 0) (on_limit : OnLimit) (row : Row) (pages : List Page) (why : Refusal) (placed : List PlacementResult) : Type 0 where
  pub end : End
  pub at_most : Option ℕ
  pub tx : List ℕ
  pub cert : List ℕ
  pub asks : AsksPlan end at_most tx cert row
  pub fault : UndoneFault
  pub names : why ≡ refusal.Undone fault
  pub explained : ExplainsPlanUndone on_limit end at_most pages fault
  pub places : ArePlacesOfRefused tx cert OutputFails fault placed

-- The reason is due where a record is refused: it is no edit that these pages accept, or memory was wanting, and the
-- reason is that of the edit, unless it asks for the list or is that of a plan; the list is refused for want of memory alone, a
-- plan whose places are texts for a reason that applies to it, and the first record of a journal never. No outputs failed but those
-- of a plan.
pub record IsRefusalDue (OutputFails : Type 0) (on_limit : OnLimit) (row : Row) (pages : List Page) (why : Refusal) (placed : List PlacementResult) : Type 0 where
  pub edit : IsRefusedFor row pages why
  pub reason : ((IsReasonFor row pages why ⊎ (row ≡ list_record)) × (placed ≡ [])) ⊎ IsPlanRefused OutputFails on_limit row pages why placed
  pub list : row ≡ list_record → why ≡ refusal.Undone undone.OutOfMemory
  pub plan : (end : End) (at_most : Option ℕ) (tx cert : List ℕ) → AsksPlan end at_most tx cert row → IsUtf8 tx → IsUtf8 cert → IsPlanRefused OutputFails on_limit row pages why placed
  pub heading : row ≢ first_record

-- The reply to a record that is judged as an edit: the edit is made, and the reply is the number of pages; or nothing is
-- changed, and the reply reports why.
abbrev pub IsEditReply : (row : Row) → (before after : List Page) → (printed : List ℕ) → Type 0
IsEditReply row before after printed =
    (IsEdit row before after × (printed ≡ pages_answer (length after)))
    ⊎ ((after ≡ before) × ((why : Refusal) × IsRefusedFor row before why × IsReasonFor row before why × IsRefusalPrinted why printed))

-- *Reply* to a record, and what became of the places of the plan that it asks for, if it asks for one.
pub data IsReply (IsKnown OutputFails : Type 0) (on_limit : OnLimit) (row : Row) (before after : List Page) (printed : List ℕ) (placed : List PlacementResult) : Type 0 where
  -- It is an edit that the pages accept: it is made, and the reply is the number of pages.
  edited :
      IsEdit row before after → printed ≡ pages_answer (length after) → placed ≡ [] →
      IsReply IsKnown OutputFails on_limit row before after printed placed
  -- It asks for the list: the reply is the page file of the pages, and their number.
  listed :
      row ≡ list_record → after ≡ before → printed ≡ page_file before ++ pages_answer (length before) → placed ≡ [] →
      IsReply IsKnown OutputFails on_limit row before after printed placed
  -- It is the first record of a journal: the reply is the number of pages.
  noted :
      row ≡ first_record → after ≡ before → printed ≡ pages_answer (length before) → placed ≡ [] →
      IsReply IsKnown OutputFails on_limit row before after printed placed
  -- It asks for a plan for an end: the reply is the batches and the bound of a plan of the pages for that end, which the two
  -- outputs hold that were put in the places that it names.
  planned :
      (end : End) (tx cert : List ℕ) (batches bound : ℕ) (sent : PlanBytes) → AsksPlan end None tx cert row →
      IsPlanned IsKnown on_limit end before batches bound sent →
      after ≡ before → printed ≡ plan_answer batches None bound → placed ≡ placed_plan tx cert sent ∷ [] →
      IsReply IsKnown OutputFails on_limit row before after printed placed
  -- It asks for a plan of the longest front that so many batches carry: the pages of the front are taken out, and the reply is
  -- the batches of its plan, how many pages it sends, and the bound.
  sent_first :
      (end : End) (most : ℕ) (tx cert : List ℕ) (count batches bound : ℕ) (sent : PlanBytes) → AsksPlan end (Some most) tx cert row →
      IsFrontPlanned IsKnown on_limit end most before count batches bound sent →
      after ≡ drop count before → printed ≡ plan_answer batches (Some count) bound → placed ≡ placed_plan tx cert sent ∷ [] →
      IsReply IsKnown OutputFails on_limit row before after printed placed
  -- It is refused, for a reason that is due.
  refused :
      (why : Refusal) → IsRefusalDue OutputFails on_limit row before why placed → after ≡ before → IsRefusalPrinted why printed →
      IsReply IsKnown OutputFails on_limit row before after printed placed

-- The line is the text of a record that asks for such a plan and for no edit, quoting apart.
pub record AsksForPlan (end : End) (at_most : Option ℕ) (tx cert line : List ℕ) : Type 0 where
  pub row : Row
  pub short : length line ≤ line_limit
  pub text : IsRowText row (record_text line)
  pub asks : AsksPlan end at_most tx cert row
  pub no_edit : None ≡ asked_of row

-- *Reply* to a line, its line feed not counted.
pub data IsLineReply (IsKnown OutputFails : Type 0) (on_limit : OnLimit) (line : List ℕ) (before after : List Page) (printed : List ℕ) (placed : List PlacementResult) : Type 0 where
  -- It has too many bytes, and is refused.
  too_long :
      line_limit < length line → after ≡ before → IsRefusalPrinted refusal.Unknown printed → placed ≡ [] →
      IsLineReply IsKnown OutputFails on_limit line before after printed placed
  -- It is no record, and is refused for that.
  unread :
      (why : Refusal) → length line ≤ line_limit → IsUnread (record_text line) why → after ≡ before → IsRefusalPrinted why printed →
      placed ≡ [] → IsLineReply IsKnown OutputFails on_limit line before after printed placed
  -- It is the text of a record, quoting apart, and the reply is that to the record.
  read :
      (row : Row) → length line ≤ line_limit → IsRowText row (record_text line) →
      IsReply IsKnown OutputFails on_limit row before after printed placed → IsLineReply IsKnown OutputFails on_limit line before after printed placed

-- The replies to lines, one behind another: each is that to its line and the pages that the lines before it left. So is what
-- became of the places of the plans.
unfoldable pub AreReplies : (IsKnown OutputFails : Type 0) → OnLimit → (lines : List (List ℕ)) → (before after : List Page) → (printed : List ℕ) → (placed : List PlacementResult) → Type 0
AreReplies IsKnown OutputFails on_limit [] before after printed placed = (after ≡ before) × (printed ≡ []) × (placed ≡ [])
AreReplies IsKnown OutputFails on_limit (line ∷ lines) before after printed placed =
    (between : List Page) × (reply more : List ℕ) × (its others : List PlacementResult) × IsLineReply IsKnown OutputFails on_limit line before between reply its
    × AreReplies IsKnown OutputFails on_limit lines between after more others × (printed ≡ reply ++ more) × (placed ≡ its ++ others)

-- *Session*: what is reported are the replies to the lines of an input, from these pages on, which leave those; and this became
-- of the places of the plans: the outputs of each that is reported were put there, and those of each that is refused for them
-- failed, for just the fault that is reported.
pub record IsSession (IsKnown OutputFails : Type 0) (on_limit : OnLimit) (input : List ℕ) (before after : List Page) (printed : List ℕ) (placed : List PlacementResult) : Type 0 where
  pub lines : List (List ℕ)
  pub cut : AreLines lines input
  pub replies : AreReplies IsKnown OutputFails on_limit lines before after printed placed

-- What was taken more is such a text.
abbrev pub TookMore : (before after : List ℕ) → (List ℕ → Type 0) → Type 0
TookMore before after is = (printed : List ℕ) × (after ≡ before ++ printed) × is printed

-- What was reported more is such a text, and what became of more places, where that is known, is such a list.
pub record PrintsAndPlaces (IsKnown : Type 0) (out_before out_after : List ℕ) (placed_before placed_after : List PlacementResult) (Holds : List ℕ → List PlacementResult → Type 0) : Type 0 where
  pub printed : List ℕ
  pub placed : List PlacementResult
  pub answers : out_after ≡ out_before ++ printed
  pub outputs : IsKnown → placed_after ≡ placed_before ++ placed
  pub holds : Holds printed placed
