-- `report` of the next slot: what it prints of the front of a page file, and why it prints nothing (this project's own).
use Rattle.std.specs.Prelude.{◌≡◌, ◌⊎◌, ℕ, List, ◌++◌}
use Rattle.pocsag_words.specs.declared.device.Source.{Ghosts as Reader}
use Rattle.pocsag_pages.specs.declared.page.Page.{Page}
use Rattle.pocsag_plan.specs.Reports.{IsRate, IsReport, report_text}
use Rattle.pocsag_plan.specs.declared.airtime.Report.{Report}
use Rattle.pocsag_plan.specs.declared.front.FrontPlan.{FrontPlan}
use Rattle.pocsag_shell.specs.Runs.{Work}
use Rattle.pocsag_centre.specs.FrontFiles.{IsFrontRead, others_text}
use Rattle.pocsag_centre.specs.FrontWorks.{ExplainsUnplanned}
use Rattle.pocsag_centre.specs.Lines.{below_text}
use Rattle.pocsag_centre.specs.Works.{of_whole}
use Rattle.pocsag_centre.specs.declared.fault.CentreFault.{CentreFault}
use Rattle.pocsag_centre.specs.declared.fault.CentreFault.TheVariants as fault
use Rattle.pocsag_centre.specs.declared.slot.SlotAsked.{SlotAsked}

-- The text is the report at the rate of the plan of the front of a page file that so many batches carry, its bound where that is
-- below the batches, how many pages are left, what is shown of one page more, and how many pages were set aside.
pub record IsSlotReported (asked : SlotAsked) (file text : List ℕ) : Type 0 where
  pub front : FrontPlan
  pub aside : List Page
  pub read : IsFrontRead file asked.front front aside
  pub report : Report
  pub report_of : IsReport front.bounded.plan asked.rate report
  pub printed : text ≡ report_text report ++ below_text report.batches front.bounded.bound ++ others_text asked.front front aside

-- `report` with a front that is asked for: prints what a plan of it takes on the air. Why it prints nothing: no front is planned; or,
-- which is judged last, the rate is none.
abbrev pub reports_slot : {P : Type 0} → Reader P → SlotAsked → (pages pages_after : P) → Work CentreFault
reports_slot Pages asked pages pages_after = of_whole Pages pages
    (λ status text. (status ≡ 0) × (Pages.is_known → IsSlotReported asked (Pages.held pages) text))
    (λ f. ExplainsUnplanned Pages asked.front pages pages_after f
    ⊎ ((f ≡ fault.BadRate) × (¬ IsRate asked.rate)
    × (Pages.is_known → (front : FrontPlan) × (aside : List Page) × IsFrontRead (Pages.held pages) asked.front front aside)))
