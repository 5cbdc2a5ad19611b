-- What `report` prints of a page file, and why it prints nothing.
use Rattle.std.specs.Prelude.{◌≡◌, ℕ, ◌+◌, ◌<◌, ◌≤◌, List, [], ◌∷◌, ◌++◌, codes, get_or, length, IsFalse, IsTrue, Ok}
use Rattle.std.specs.Fmt.{decimal}
use Rattle.std.specs.List.{flat_map}
use Rattle.std.specs.List.Sorted.{IsNonDecreasingBy, IsPermutation}
use Rattle.pocsag_pages.specs.PageFile.{verdict}
use Rattle.pocsag_pages.specs.declared.page.Page.{Page}
use Rattle.pocsag_slots.specs.declared.step.Step.{Step}
use Rattle.pocsag_plan.specs.declared.airtime.Report.{Report}
use Rattle.pocsag_plan.specs.declared.bounded.BoundedPlan.{BoundedPlan}
use Rattle.pocsag_plan.specs.declared.frames.FrameRoom.{FrameRoom}
use Rattle.pocsag_plan.specs.Frames.{frames_of}
use Rattle.pocsag_plan.specs.Plans.{IsPlanFor}
use Rattle.pocsag_plan.specs.Reports.{IsPlannable, IsRate, IsReport, report_text}
use Rattle.pocsag_centre.specs.Lines.{below_text}
use Rattle.pocsag_centre.specs.Refusals.{ExplainsNoPlan}
use Rattle.pocsag_centre.specs.declared.fault.CentreFault.{CentreFault}
use Rattle.pocsag_centre.specs.declared.fault.CentreFault.TheVariants as fault
use Rattle.pocsag_centre.specs.declared.report.ReportAsked.{ReportAsked}

-- `--frames`: these are the eight frames, the least room first, and of neighbours with the same room the lower number first.
pub record AreByRoom (R : List Page) (steps : List Step) (rooms : List FrameRoom) : Type 0 where
  pub each : IsPermutation (frames_of R steps) rooms
  pub order : IsNonDecreasingBy (λ r. r.room) rooms
  pub ties : (k : ℕ) (none : FrameRoom) → k + 1 < length rooms → (get_or rooms k none).room ≡ (get_or rooms (k + 1) none).room
      → (get_or rooms k none).frame ≤ (get_or rooms (k + 1) none).frame

-- The line of a frame: `frame F pages N codewords C room R`.
unfoldable pub frame_text : FrameRoom → List ℕ
frame_text r =
    codes "frame " ++ (decimal r.frame ++ (codes " pages " ++ (decimal r.pages
    ++ (codes " codewords " ++ (decimal r.codewords ++ (codes " room " ++ (decimal r.room ++ (10 ∷ []))))))))

-- The text is the report at the rate of the plan that is required for what is asked of the page file's round, its bound where that
-- is below the batches, and, where the frames are asked for, a line for each of that plan, the least room first.
pub record IsReportPrinted (asked : ReportAsked) (file text : List ℕ) : Type 0 where
  pub round : List Page
  pub read : verdict file ≡ Ok round
  pub bounded : BoundedPlan
  pub plan_of : IsPlanFor asked.search round bounded
  pub report : Report
  pub report_of : IsReport bounded.plan asked.rate report
  pub rooms : List FrameRoom
  pub none : IsFalse asked.frames → rooms ≡ []
  pub all : IsTrue asked.frames → AreByRoom round bounded.plan.steps.items rooms
  pub printed : text ≡ report_text report ++ below_text report.batches bounded.bound ++ flat_map frame_text rooms

-- Why there is no report of a page file. The rate is judged last.
abbrev pub ExplainsReporting : ReportAsked → (file : List ℕ) → CentreFault → Type 0
ExplainsReporting asked file fault.BadRate = (¬ IsRate asked.rate) × IsPlannable file asked.search
ExplainsReporting asked file f = ExplainsNoPlan file asked.search f
