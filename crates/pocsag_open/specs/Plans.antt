-- What is so where the plan of an open round is written, and where it is refused (this project's own).
use Rattle.std.specs.Prelude.{◌≡◌, ◌⊎◌, ℕ, ◌≤◌, List, [], ◌∷◌, ◌++◌, take, Option, Some, None}
use Rattle.pocsag_words.specs.Devices.{HasFailed}
use Rattle.pocsag_words.specs.declared.ending.End.{End}
use Rattle.pocsag_pages.specs.Pages.{IsRound}
use Rattle.pocsag_pages.specs.declared.page.Page.{Page}
use Rattle.pocsag_tree.specs.BoundTrees.{BoundTree}
use Rattle.pocsag_tree.specs.Views.{bound_tree_of}
use Rattle.pocsag_plan.specs.declared.search.OnLimit.{OnLimit}
use Rattle.pocsag_plan.specs.declared.search.OnLimit.TheVariants.{Fewest}
use Rattle.pocsag_plan.specs.declared.fault.PlanFault.TheVariants as planning
use Rattle.pocsag_plan.specs.declared.fault.StreamFault.{StreamFault}
use Rattle.pocsag_plan.specs.declared.fault.StreamFault.TheVariants as streaming
use Rattle.pocsag_plan.specs.declared.bounded.BoundedPlan.{BoundedPlan}
use Rattle.pocsag_plan.specs.declared.search.Search.{Search}
use Rattle.pocsag_plan.specs.Fronts.{FirstNeeds, IsFrontFor, IsLongestFront, StopsAtFront}
use Rattle.pocsag_plan.specs.Headline.{RoundHeadline}
use Rattle.pocsag_plan.specs.Plans.{IsPlanFor, IsStopped, MayStop}
use Rattle.pocsag_plan.specs.Searches.{default_limit}
use Rattle.pocsag_shell.specs.declared.fault.FileFault.{FileFault}
use Rattle.pocsag_shell.specs.declared.fault.FileFault.TheVariants as file
use Rattle.pocsag_journal.specs.declared.refusal.UndoneFault.{UndoneFault}
use Rattle.pocsag_journal.specs.declared.refusal.UndoneFault.TheVariants as undone

-- What the two outputs of a plan hold: the bytes of the transmission and of the certificate.
abbrev pub PlanBytes : Type 0
PlanBytes = List ℕ × List ℕ

-- The names of the places of a transmission and of its certificate.
abbrev pub PlaceNames : Type 0
PlaceNames = List ℕ × List ℕ

-- What became of the places of a plan: its outputs, which hold these bytes, were put there; or they could not be made or put, for
-- this fault.
pub data PlacementResult : Type 0 where
  put : PlaceNames → PlanBytes → PlacementResult
  failed : PlaceNames → FileFault → PlacementResult

-- No names, no plan, one that was put, and one that failed.
abbrev pub no_names : Option PlaceNames
no_names = None

abbrev pub no_plans : List PlacementResult
no_plans = []

abbrev pub placed_plan : (tx cert : List ℕ) → PlanBytes → PlacementResult
placed_plan tx cert sent = put (tx, cert) sent

abbrev pub failed_plan : (tx cert : List ℕ) → FileFault → PlacementResult
failed_plan tx cert f = failed (tx, cert) f

-- The search of a plan for the end.
abbrev pub plan_search : OnLimit → End → Search
plan_search on_limit end = record { limit = default_limit; end = end; on_limit = on_limit }

-- The plan that is required for the pages and the end, with the limit of an open round, has so many batches and this bound, which is
-- its batches where only the fewest are an answer; and its two outputs, where it is known what they hold, hold the transmission and
-- the certificate of the headline of these pages, this end, these batches and this bound.
pub record IsPlanned (IsKnown : Type 0) (on_limit : OnLimit) (end : End) (pages : List Page) (batches bound : ℕ) (sent : PlanBytes) : Type 0 where
  pub made : BoundedPlan
  pub plan : IsPlanFor (plan_search on_limit end) pages made
  pub same : batches ≡ made.plan.batches
  pub its_bound : bound ≡ made.bound
  pub headline : IsKnown → RoundHeadline pages end batches bound (bound_tree_of made.plan.tree) sent.0 sent.1

-- The first `count` pages are the front that is required for so many batches, the longest where only the fewest are an answer; and
-- they are planned, in no more batches. The pages may stand in a round.
pub record IsFrontPlanned (IsKnown : Type 0) (on_limit : OnLimit) (end : End) (most : ℕ) (pages : List Page) (count batches bound : ℕ) (sent : PlanBytes) : Type 0 where
  pub round : IsRound pages
  pub front : IsFrontFor (plan_search on_limit end) pages most count
  pub longest : on_limit ≡ Fewest → IsLongestFront end pages most count
  pub planned : IsPlanned IsKnown on_limit end (take count pages) batches bound sent
  pub within : batches ≤ most

-- What is asked for is planned: all pages; or the front that is required for so many batches, these first pages.
abbrev pub IsAskedPlanned : (IsKnown : Type 0) → OnLimit → End → (at_most : Option ℕ) → List Page → (count : Option ℕ) → (batches bound : ℕ) → PlanBytes → Type 0
IsAskedPlanned IsKnown on_limit end None pages None batches bound sent = IsPlanned IsKnown on_limit end pages batches bound sent
IsAskedPlanned IsKnown on_limit end (Some most) pages (Some count) batches bound sent =
    IsFrontPlanned IsKnown on_limit end most pages count batches bound sent
IsAskedPlanned IsKnown on_limit end _ pages _ batches bound sent = ⊥

-- There is such a plan, and its outputs were put in these two places, behind those of the plans before it.
pub record IsPlanPlaced (IsKnown : Type 0) (on_limit : OnLimit) (end : End) (at_most : Option ℕ) (tx cert : List ℕ) (pages : List Page)
    (count : Option ℕ) (batches bound : ℕ) (before after : List PlacementResult) : Type 0 where
  pub sent : PlanBytes
  pub planned : IsAskedPlanned IsKnown on_limit end at_most pages count batches bound sent
  pub placed : IsKnown → after ≡ before ++ placed_plan tx cert sent ∷ []

-- Why a plan is refused that a line asks for, of all pages or of the front for so many batches, and what is so of the pages
-- then: there are none; or the search stopped at its limit between these two numbers of batches, for all pages or for some first
-- ones, which happens only where the fewest alone are an answer; or the first page alone needs more; or memory was wanting for
-- a plan of a round.
abbrev pub ExplainsPlanUndone : OnLimit → End → (at_most : Option ℕ) → List Page → UndoneFault → Type 0
ExplainsPlanUndone on_limit end at_most pages undone.NoPages = pages ≡ []
ExplainsPlanUndone on_limit end at_most pages undone.OutOfMemory = IsRound pages
ExplainsPlanUndone on_limit end at_most pages (undone.File f) = Unit {0}
ExplainsPlanUndone on_limit end None pages (undone.SearchLimit least found) =
    MayStop on_limit × IsRound pages × ((tree : BoundTree) × IsStopped end pages default_limit least found tree)
ExplainsPlanUndone on_limit end (Some most) pages (undone.SearchLimit least found) =
    MayStop on_limit × IsRound pages × ((tree : BoundTree) × StopsAtFront (plan_search on_limit end) pages most least found tree)
ExplainsPlanUndone on_limit end None pages (undone.FirstPage needed) = ⊥
ExplainsPlanUndone on_limit end (Some most) pages (undone.FirstPage needed) =
    IsRound pages × FirstNeeds (plan_search on_limit end) pages most needed

-- Some output failed.
abbrev pub HasFailedOutput : {Output : Type 0} → (failures : Output → ℕ) → Type 0
HasFailedOutput {Output} failures = (before after : Output) × HasFailed (failures before) (failures after)

-- What became of the places of a plan that is refused: where it is for its files, just these could not be made or put in their
-- places, for just this fault, or one of them could not be written; and else nothing.
abbrev pub ArePlacesOfRefused : (tx cert : List ℕ) → (OutputFails : Type 0) → UndoneFault → List PlacementResult → Type 0
ArePlacesOfRefused tx cert OutputFails (undone.File f) placed =
    (placed ≡ failed_plan tx cert f ∷ []) ⊎ ((f ≡ file.Write) × OutputFails × (placed ≡ []))
ArePlacesOfRefused tx cert OutputFails _ placed = placed ≡ []

-- The same of the outputs that are made for the plan, behind those of the plans before it.
pub record IsUnplaced (IsKnown OutputFails : Type 0) (tx cert : List ℕ) (before after : List PlacementResult) (fault : UndoneFault) : Type 0 where
  pub placed : List PlacementResult
  pub refused : ArePlacesOfRefused tx cert OutputFails fault placed
  pub outputs : IsKnown → after ≡ before ++ placed

-- Which reason the fault of a stream is. The limit of an open round is never a bad one.
abbrev pub undone_of : StreamFault → UndoneFault
undone_of (streaming.Plan (planning.SearchLimit stop)) = undone.SearchLimit stop.least stop.found
undone_of (streaming.Plan planning.OutOfMemory) = undone.OutOfMemory
undone_of (streaming.Plan planning.BadLimit) = undone.OutOfMemory
undone_of (streaming.Round f) = undone.NoPages
undone_of (streaming.Transmission f) = undone.File file.Write
undone_of (streaming.Certificate f) = undone.File file.Write
