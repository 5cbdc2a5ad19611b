-- What either search leaves for a plan.
use Rattle.std.specs.Prelude.{◌≡◌, ◌⊎◌, ℕ, ◌+◌, ◌≤◌, false, List, slice_index, Option, IfNone, IfSome}
use Rattle.pocsag_words.specs.declared.ending.End.{End}
use Rattle.pocsag_pages.specs.declared.page.Page.{Page}
use Rattle.pocsag_slots.specs.declared.class.Classes.{Classes}
use Rattle.pocsag_slots.specs.Loads.{AreClassesOf, IsChoice, IsLeast}
use Rattle.pocsag_slots.specs.Tours.{IsTour}
use Rattle.pocsag_tree.specs.BoundTrees.{closed_nodes}
use Rattle.pocsag_tree.specs.Views.{bound_tree_of}
use Rattle.pocsag_check.specs.Acceptance.{IsAccepted}
use Rattle.pocsag_branch.specs.declared.answer.Found.{Found}
use Rattle.pocsag_branch.specs.Found.{IsBound, IsLimit}
use Rattle.pocsag_branch.specs.Shape.{IsSearchTree}
use Rattle.pocsag_branch.specs.declared.fault.SearchLimit.{SearchLimit}
use Rattle.pocsag_plan.specs.declared.fault.PlanFault.{PlanFault}
use Rattle.pocsag_plan.specs.declared.fault.PlanFault.TheVariants as planning
use Rattle.pocsag_plan.specs.declared.outcome.Outcome.{Outcome}
use Rattle.pocsag_plan.specs.declared.search.OnLimit.TheVariants.{Fewest}
use Rattle.pocsag_plan.specs.declared.search.Search.{Search}
use Rattle.pocsag_plan.specs.Plans.{MayStop}

-- A tour of the least that some choice of starts needs, or of one batch more, and a tree for a bound that
-- the batches are, or exceed by one.
pub record IsWithinOne (k : Classes) (end : End) (limit bound : ℕ) (found : Found) : Type 0 where
  pub least : ℕ
  pub is_least : IsLeast k least
  pub or_one_more : (found.batches ≡ least) ⊎ (found.batches ≡ least + 1)
  pub choice : IsChoice k (slice_index found.choice.early)
  pub tour : IsTour k end (slice_index found.choice.early) found.batches found.steps.items
  pub bounded : IsBound k end bound
  pub at_least : bound ≤ found.batches
  pub within_one : found.batches ≤ bound + 1
  pub accepted : IsAccepted false k end bound (bound_tree_of found.tree)
  pub few : closed_nodes (bound_tree_of found.tree) ≤ limit

-- The bound is the batches where no search stopped; and where one did, they are one more, and it says this.
pub record IsTightOrStopped (k : Classes) (end : End) (limit bound batches : ℕ) (stopped : Option SearchLimit) : Type 0 where
  pub tight : IfNone stopped (bound ≡ batches)
  pub at_limit : IfSome stopped (λ stop.
      (stop.least ≡ bound) × (stop.found ≡ batches) × IsLimit k end limit stop.least stop.found (bound_tree_of stop.tree))

-- What is left for a plan by the search that is asked for.
pub record IsOutcome (k : Classes) (search : Search) (outcome : Outcome) : Type 0 where
  pub within : IsWithinOne k search.end search.limit outcome.bound outcome.found
  pub stopped : IsTightOrStopped k search.end search.limit outcome.bound outcome.found.batches outcome.stopped
  -- Where only the fewest batches are an answer, the bound is the batches, and the tree has the promised shape.
  pub fewest : search.on_limit ≡ Fewest → outcome.bound ≡ outcome.found.batches
  pub shaped : search.on_limit ≡ Fewest → IsSearchTree k search.end within.least outcome.found.batches (bound_tree_of outcome.found.tree)

-- The same for a round of these classes.
pub record IsOutcomeFor (search : Search) (R : List Page) (outcome : Outcome) : Type 0 where
  pub table : Classes
  pub classes : AreClassesOf table search.end R
  pub of_classes : IsOutcome table search outcome

-- What a fault of the search that is asked for says of the classes: the search stopped, which happens only where the fewest
-- batches alone are an answer; or memory was wanting.
abbrev pub IsOutcomeFault : Classes → Search → PlanFault → Type 0
IsOutcomeFault k search planning.BadLimit = ⊥
IsOutcomeFault k search (planning.SearchLimit stop) =
    MayStop search.on_limit × IsLimit k search.end search.limit stop.least stop.found (bound_tree_of stop.tree)
IsOutcomeFault k search planning.OutOfMemory = Unit {0}
