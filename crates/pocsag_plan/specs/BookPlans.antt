-- What a plan of a book is, and why there is none.
use Rattle.std.specs.Prelude.{◌≡◌, ℕ, List, []}
use Rattle.pocsag_words.specs.declared.ending.End.{End}
use Rattle.pocsag_pages.specs.declared.page.Page.{Page}
use Rattle.pocsag_pages.specs.Pages.{IsRound}
use Rattle.pocsag_tree.specs.Views.{bound_tree_of}
use Rattle.pocsag_branch.specs.Found.{IsNodeLimit}
use Rattle.pocsag_pages.specs.declared.fault.RoundFault.TheVariants as round
use Rattle.pocsag_plan.specs.declared.fault.UnsentFront.{UnsentFront}
use Rattle.pocsag_plan.specs.declared.fault.UnsentFront.TheVariants as front
use Rattle.pocsag_plan.specs.declared.fault.PlanFault.TheVariants as planning
use Rattle.pocsag_plan.specs.declared.fault.StreamFault.{StreamFault}
use Rattle.pocsag_plan.specs.declared.fault.StreamFault.TheVariants as streaming
use Rattle.pocsag_plan.specs.declared.refusal.BookFault.{BookFault}
use Rattle.pocsag_plan.specs.declared.refusal.BookFault.TheVariants as fault
use Rattle.pocsag_plan.specs.declared.search.OnLimit.{OnLimit}
use Rattle.pocsag_plan.specs.declared.search.Search.{Search}
use Rattle.pocsag_plan.specs.Fronts.{FirstNeeds, StopsAtFront}
use Rattle.pocsag_plan.specs.Plans.{IsStopped, MayStop}

-- When each fault comes, and what it says. Memory is wanted only for a round and a limit that may be.
abbrev pub ExplainsBook : OnLimit → End → List Page → ℕ → BookFault → Type 0
ExplainsBook on_limit end R limit (fault.Plan planning.BadLimit) = ¬ IsNodeLimit limit
ExplainsBook on_limit end R limit fault.NoPages = IsNodeLimit limit × (R ≡ [])
ExplainsBook on_limit end R limit (fault.Plan (planning.SearchLimit stop)) =
    MayStop on_limit × IsNodeLimit limit × IsRound R × IsStopped end R limit stop.least stop.found (bound_tree_of stop.tree)
ExplainsBook on_limit end R limit (fault.Plan planning.OutOfMemory) = IsNodeLimit limit × IsRound R

-- When each fault of a stream of a book comes, and what it says.
abbrev pub ExplainsBookStream : OnLimit → End → List Page → ℕ → StreamFault → Type 0
ExplainsBookStream on_limit end R limit (streaming.Plan planning.BadLimit) = ¬ IsNodeLimit limit
ExplainsBookStream on_limit end R limit (streaming.Round f) = IsNodeLimit limit × (R ≡ []) × (f ≡ round.NoPages)
ExplainsBookStream on_limit end R limit (streaming.Plan (planning.SearchLimit stop)) =
    MayStop on_limit × IsNodeLimit limit × IsRound R × IsStopped end R limit stop.least stop.found (bound_tree_of stop.tree)
ExplainsBookStream on_limit end R limit (streaming.Plan planning.OutOfMemory) = IsNodeLimit limit × IsRound R
ExplainsBookStream on_limit end R limit (streaming.Transmission f) = IsNodeLimit limit × IsRound R
ExplainsBookStream on_limit end R limit (streaming.Certificate f) = IsNodeLimit limit × IsRound R

-- When each fault of a front of a book comes, and what it says: as of a stream of all its pages, but that a search stopped at
-- some first pages, or that the first page alone needs more batches.
abbrev pub ExplainsBookFront : Search → List Page → (batches : ℕ) → UnsentFront → Type 0
ExplainsBookFront search R batches (front.Stream (streaming.Plan (planning.SearchLimit stop))) =
    MayStop search.on_limit × IsNodeLimit search.limit × IsRound R × StopsAtFront search R batches stop.least stop.found (bound_tree_of stop.tree)
ExplainsBookFront search R batches (front.Stream f) = ExplainsBookStream search.on_limit search.end R search.limit f
ExplainsBookFront search R batches (front.FirstPage needed) =
    IsNodeLimit search.limit × IsRound R × FirstNeeds search R batches needed
