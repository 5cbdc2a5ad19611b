-- What a report reports of a plan at a rate, and its text (this project's own).
use Rattle.std.specs.Prelude.{◌≡◌, ◌⊎◌, ℕ, ◌+◌, ◌*◌, ◌<◌, ◌≤◌, List, [], ◌∷◌, ◌++◌, codes}
use Rattle.std.specs.Fmt.{decimal}
use Rattle.pocsag_words.specs.Frame.{airtime, transmission_bits}
use Rattle.pocsag_plan.specs.declared.airtime.BoundedReport.{BoundedReport}
use Rattle.pocsag_plan.specs.declared.airtime.Report.{Report}
use Rattle.pocsag_plan.specs.declared.answer.Plan.{Plan}
use Rattle.pocsag_plan.specs.declared.bounded.BoundedPlan.{BoundedPlan}
use Rattle.pocsag_plan.specs.declared.search.Search.{Search}
use Rattle.pocsag_plan.specs.Plans.{IsPlanFor}
use Rattle.pocsag_plan.specs.Streams.{IsOfRound}

-- The rates of transmissions, in bits a second.
abbrev pub IsRate : ℕ → Type 0
IsRate rate = (rate ≡ 512) ⊎ (rate ≡ 1200) ⊎ (rate ≡ 2400)

-- The counts of the plan; the idles fill its batches; the bits are those of a transmission of so many batches; and the
-- airtime is the least whole number of milliseconds in which so many bits are sent.
pub record IsReport (plan : Plan) (rate : ℕ) (report : Report) : Type 0 where
  pub pages : report.pages ≡ plan.pages
  pub codewords : report.codewords ≡ plan.codewords
  pub in_order : report.in_order ≡ plan.in_order
  pub batches : report.batches ≡ plan.batches
  pub idles : report.idles + plan.codewords ≡ 16 * plan.batches
  pub bits : report.bits ≡ transmission_bits plan.batches
  pub enough : 1000 * report.bits ≤ rate * report.airtime_ms
  pub least : rate * report.airtime_ms < 1000 * report.bits + rate

-- The report at a rate of the plan that is required for what is asked of the page file's round, with its bound.
pub record IsReportOf (file : List ℕ) (search : Search) (rate : ℕ) (answered : BoundedReport) : Type 0 where
  pub bounded : BoundedPlan
  pub plan_of : IsOfRound file (λ round. IsPlanFor search round bounded)
  pub same_bound : answered.bound ≡ bounded.bound
  pub report_of : IsReport bounded.plan rate answered.report

-- A plan is required for what is asked of the page file's round.
pub record IsPlannable (file : List ℕ) (search : Search) : Type 0 where
  pub bounded : BoundedPlan
  pub plan_of : IsOfRound file (λ round. IsPlanFor search round bounded)

-- A transmission of so many batches lasts at most so many milliseconds at the rate, as a report reports it, and one of a batch
-- more lasts longer. No batch is none.
pub record AreMostWithin (airtime_ms rate batches : ℕ) : Type 0 where
  pub within : 0 < batches → airtime (transmission_bits batches) rate ≤ airtime_ms
  pub most : airtime_ms < airtime (transmission_bits (batches + 1)) rate

-- A line: a name, a space, a decimal number, and a line feed.
unfoldable pub line_of : List ℕ → ℕ → List ℕ
line_of name n = name ++ (32 ∷ (decimal n ++ (10 ∷ [])))

-- The seven lines of a report.
unfoldable pub first_lines : Report → List ℕ
first_lines r =
    line_of (codes "pages") r.pages
    ++ (line_of (codes "codewords") r.codewords
    ++ (line_of (codes "in_order") r.in_order ++ line_of (codes "batches") r.batches))

unfoldable pub last_lines : Report → List ℕ
last_lines r =
    line_of (codes "idles") r.idles
    ++ (line_of (codes "bits") r.bits ++ line_of (codes "airtime_ms") r.airtime_ms)

unfoldable pub report_text : Report → List ℕ
report_text r = first_lines r ++ last_lines r
