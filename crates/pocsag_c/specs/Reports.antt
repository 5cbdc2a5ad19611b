-- What `pocsag_report` promises.
use Rattle.std.specs.Prelude.{◌≡◌, ◌==◌, if◌then◌else◌, ℕ, List}
use Rattle.pocsag_plan.specs.Plans.{ExplainsPlan}
use Rattle.pocsag_plan.specs.Reports.{IsPlannable, IsRate, IsReportOf}
use Rattle.pocsag_plan.specs.Streams.{IsOfRound}
use Rattle.pocsag_plan.specs.Verdicts.{ExplainsRound}
use Rattle.pocsag_plan.specs.declared.airtime.BoundedReport.{BoundedReport}
use Rattle.pocsag_plan.specs.declared.fault.StreamFault.{StreamFault}
use Rattle.pocsag_plan.specs.declared.fault.StreamFault.TheVariants as stream
use Rattle.pocsag_plan.specs.declared.search.OnLimit.TheVariants.{Fewest, Always}
use Rattle.pocsag_plan.specs.declared.search.Search.{Search}
use Rattle.pocsag_c.specs.Answers.{number_of_end}
use Rattle.pocsag_c.specs.declared.refusal.Place.{Place}
use Rattle.pocsag_c.specs.declared.report.ReportInfo.{ReportInfo}

-- What is asked of a planner is for the end of this number, with this limit, and for the fewest batches alone where `always` is 0;
-- else no round is refused.
pub record IsAsked (number limit always : ℕ) (search : Search) : Type 0 where
  pub same_end : number ≡ number_of_end search.end
  pub same_limit : search.limit ≡ limit
  pub same_on_limit : search.on_limit ≡ (if always == 0 then Fewest else Always)

-- This is so of what the numbers of a call ask of a planner.
pub record IsSoAsAsked (number limit always : ℕ) (P : Search → Type 0) : Type 0 where
  pub search : Search
  pub asked : IsAsked number limit always search
  pub holds : P search

-- What is reported is the report of a plan of the page file's round for the end of this number, with its bound.
pub record PrintsReport (file : List ℕ) (number limit always rate : ℕ) (info : ReportInfo) : Type 0 where
  pub search : Search
  pub asked : IsAsked number limit always search
  pub answered : BoundedReport
  pub is : IsReportOf file search rate answered
  pub bound : info.bound ≡ answered.bound
  pub pages : info.pages ≡ answered.report.pages
  pub codewords : info.codewords ≡ answered.report.codewords
  pub in_order : info.in_order ≡ answered.report.in_order
  pub batches : info.batches ≡ answered.report.batches
  pub idles : info.idles ≡ answered.report.idles
  pub bits : info.bits ≡ answered.report.bits
  pub airtime : info.airtime_ms ≡ answered.report.airtime_ms

-- Why a page file has no plan. The file is judged before the limit.
abbrev pub ExplainsUnreported : (file : List ℕ) → Search → StreamFault → Type 0
ExplainsUnreported file search (stream.Round f) = ExplainsRound file f
ExplainsUnreported file search (stream.Plan f) = IsOfRound file (λ round. ExplainsPlan search.on_limit search.end round search.limit f)
ExplainsUnreported file search (stream.Transmission f) = ⊥
ExplainsUnreported file search (stream.Certificate f) = ⊥

-- Why there is no plan of a page file to report of, though the end is one.
abbrev pub ExplainsReport : (file : List ℕ) → (number limit always : ℕ) → StreamFault → Type 0
ExplainsReport file number limit always f = IsSoAsAsked number limit always (λ search. ExplainsUnreported file search f)

-- The rate is none, which is judged last: there is a plan.
abbrev pub IsBadRate : (file : List ℕ) → (number limit always rate : ℕ) → Type 0
IsBadRate file number limit always rate =
    IsSoAsAsked number limit always (λ search. IsPlannable file search × (¬ IsRate rate))

-- What is reported beside the place where there is no report.
abbrev pub no_report : Place → ReportInfo
no_report place = record {
  pages = 0;
  codewords = 0;
  in_order = 0;
  batches = 0;
  bound = 0;
  idles = 0;
  bits = 0;
  airtime_ms = 0;
  place = place;
}
