-- What the free search promises: *The free search's bound* and *Within one*, this project's own.
use Rattle.std.specs.Prelude.{◌≡◌, ℕ, ◌+◌, ◌≤◌, false, slice_index, ◌⊎◌}
use Rattle.pocsag_words.specs.declared.ending.End.{End}
use Rattle.pocsag_slots.specs.declared.class.Classes.{Classes}
use Rattle.pocsag_slots.specs.Loads.{IsChoice, IsLeast}
use Rattle.pocsag_slots.specs.Tours.{IsTour}
use Rattle.pocsag_tree.specs.BoundTrees.{closed_nodes, overload}
use Rattle.pocsag_tree.specs.Views.{bound_tree_of}
use Rattle.pocsag_check.specs.Acceptance.{IsAccepted}
use Rattle.pocsag_branch.specs.declared.answer.Found.{Found}
use Rattle.pocsag_branch.specs.declared.within_one.FallbackPlan.{FallbackPlan}
use Rattle.pocsag_branch.specs.declared.within_one.FreeFault.{FreeFault}
use Rattle.pocsag_branch.specs.declared.within_one.FreeFault.TheVariants.{SearchLimit, OutOfMemory}
use Rattle.pocsag_branch.specs.Found.{IsBound, IsLimit}

-- What `search_freely` found within so many nodes.
pub record IsFoundFreely (k : Classes) (end : End) (limit : ℕ) (found : Found) : Type 0 where
  -- The batches are the least that some choice of starts needs, or one more;
  pub least : ℕ
  pub is_least : IsLeast k least
  pub or_one_more : (found.batches ≡ least) ⊎ (found.batches ≡ least + 1)
  -- the steps are a tour of the choice for the end;
  pub choice : IsChoice k (slice_index found.choice.early)
  pub tour : IsTour k end (slice_index found.choice.early) found.batches found.steps.items
  -- the checker accepts the tree, which has no `Open` then and is at most 300 deep, so no transmission has
  -- fewer batches;
  pub accepted : IsAccepted false k end found.batches (bound_tree_of found.tree)
  pub bound : IsBound k end found.batches
  -- it has at most so many nodes.
  pub few : closed_nodes (bound_tree_of found.tree) ≤ limit

-- *Within one*.
pub record IsNearlyFewest (k : Classes) (end : End) (fallback : FallbackPlan) : Type 0 where
  -- `least` is the least that some choice of starts needs, and the tree, one node, shows that it bounds
  -- each transmission;
  pub is_least : IsLeast k fallback.least
  pub bound : IsBound k end fallback.least
  pub accepted : IsAccepted false k end fallback.least (bound_tree_of fallback.tree)
  pub set : ℕ
  pub one_node : bound_tree_of fallback.tree ≡ overload set
  -- the steps are a tour of the choice for the end with one batch more.
  pub choice : IsChoice k (slice_index fallback.choice.early)
  pub tour : IsTour k end (slice_index fallback.choice.early) (fallback.least + 1) fallback.steps.items

-- What each fault of `search_freely` says: at its limit, a tour of one batch more than the least, and all that
-- `search` says at the same limit, so a tree of exactly so many nodes and of the promised shape.
abbrev pub IsFreeFault : Classes → End → ℕ → FreeFault → Type 0
IsFreeFault k end limit (SearchLimit fallback stop) =
    IsNearlyFewest k end fallback × (stop.least ≡ fallback.least) × IsLimit k end limit stop.least stop.found (bound_tree_of stop.tree)
IsFreeFault k end limit OutOfMemory = Unit {0}
