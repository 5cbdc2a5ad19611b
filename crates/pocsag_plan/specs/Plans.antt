-- What a plan is, and why there is none.
use Rattle.std.specs.Prelude.{◌≡◌, ℕ, ◌+◌, ◌*◌, ◌<◌, ◌≤◌, ◌⊎◌, true, false, List, ◌++◌, length, replicate, slice_index, sum_by, IfNone, IfSome}
use Rattle.pocsag_words.specs.declared.codeword.Kind.{Kind}
use Rattle.pocsag_words.specs.declared.ending.End.{End}
use Rattle.pocsag_pages.specs.declared.page.Page.{Page}
use Rattle.pocsag_pages.specs.Reading.{IsLegalList, page_length}
use Rattle.pocsag_slots.specs.declared.class.Classes.{Classes}
use Rattle.pocsag_slots.specs.Loads.{AreClassesOf, IsAdmitted, IsLeast, limits_of_all}
use Rattle.pocsag_slots.specs.Tours.{IsTour}
use Rattle.pocsag_tree.specs.BoundTrees.{BoundTree, closed_nodes}
use Rattle.pocsag_tree.specs.Limits.{second_ranges}
use Rattle.pocsag_tree.specs.CertificateText.{HasText}
use Rattle.pocsag_tree.specs.Views.{bound_tree_of}
use Rattle.pocsag_check.specs.Acceptance.{IsAcceptedFor}
use Rattle.pocsag_branch.specs.Found.{IsNodeLimit}
use Rattle.pocsag_branch.specs.Marks.{opens}
use Rattle.pocsag_branch.specs.Shape.{IsSearchTree, IsShaped}
use Rattle.pocsag_batch.specs.FileOrder.{IsFileOrder}
use Rattle.pocsag_batch.specs.Placement.{IsOrder}
use Rattle.pocsag_plan.specs.declared.answer.Plan.{Plan}
use Rattle.pocsag_plan.specs.declared.bounded.BoundedPlan.{BoundedPlan}
use Rattle.pocsag_plan.specs.declared.fault.PlanFault.{PlanFault}
use Rattle.pocsag_plan.specs.declared.fault.PlanFault.TheVariants as fault
use Rattle.pocsag_plan.specs.declared.search.OnLimit.{OnLimit}
use Rattle.pocsag_plan.specs.declared.search.OnLimit.TheVariants.{Fewest, Always}
use Rattle.pocsag_plan.specs.declared.search.Search.{Search}

-- Each list of codewords that is legal for the round and the end has at least so many batches.
abbrev pub NoneHasFewer : End → List Page → ℕ → Type 0
NoneHasFewer end R batches = (T : List ℕ) (n : ℕ) → IsLegalList end T n R → batches ≤ n

-- The batches are the least that some choice of starts needs, or one more.
pub record IsFallbackLeast (k : Classes) (batches : ℕ) : Type 0 where
  pub least : ℕ
  pub is_least : IsLeast k least
  pub fallback : (batches ≡ least) ⊎ (batches ≡ least + 1)

-- A plan of the round for the end, and a bound for which its tree is.
pub record IsBounded (end : End) (R : List Page) (plan : Plan) (bound : ℕ) : Type 0 where
  -- It is for the end that was asked for, and counts the pages, the codewords of the pages, and the batches
  -- of file order, which has the open end for every end.
  pub asked : plan.end ≡ end
  pub pages : plan.pages ≡ length R
  pub codewords : plan.codewords ≡ sum_by page_length R
  pub in_order : (T : List Kind) → IsFileOrder R T → length T ≡ 16 * plan.in_order
  -- The choice is admitted, the steps are its tour for the end, and the order is that of the steps.
  pub table : Classes
  pub classes : AreClassesOf table end R
  pub admitted : IsAdmitted table (limits_of_all table plan.batches) (slice_index plan.choice.early)
  pub tour : IsTour table end (slice_index plan.choice.early) plan.batches plan.steps.items
  pub order : IsOrder end R plan.steps.items plan.order.items
  -- The codewords of the pages fit into the batches, of which there are few.
  pub room : plan.codewords ≤ 16 * plan.batches
  pub fallback_least : IsFallbackLeast table plan.batches
  pub most : plan.batches ≤ 1760001
  -- No transmission has fewer batches than the bound, and the plan has so many, or one more.
  pub fewest : NoneHasFewer end R bound
  pub at_least : bound ≤ plan.batches
  pub within_one : plan.batches ≤ bound + 1
  -- The checker accepts the tree for the bound, and there is a text of it.
  pub accepted : IsAcceptedFor false end R bound (bound_tree_of plan.tree)
  pub text : HasText second_ranges bound (bound_tree_of plan.tree)

-- The tree is one of the search for the classes of the round, where so many batches are answered.
pub record IsSearchTreeFor (end : End) (R : List Page) (batches : ℕ) (tree : BoundTree) : Type 0 where
  pub table : Classes
  pub classes : AreClassesOf table end R
  pub least : ℕ
  pub is_least : IsLeast table least
  pub shaped : IsSearchTree table end least batches tree

-- A plan of the round for the end.
pub record IsPlan (end : End) (R : List Page) (plan : Plan) : Type 0 where
  -- Its bound is its batches, so they are the fewest;
  pub bounded : IsBounded end R plan plan.batches
  -- and its tree has the promised shape.
  pub shaped : IsSearchTreeFor end R plan.batches (bound_tree_of plan.tree)

-- What the search knew of the round when it had made as many nodes as it may.
pub record IsStopped (end : End) (R : List Page) (limit least found : ℕ) (tree : BoundTree) : Type 0 where
  pub table : Classes
  pub classes : AreClassesOf table end R
  -- `least` is the least that some choice of starts needs, which bounds each transmission;
  pub is_least : IsLeast table least
  pub bound : NoneHasFewer end R least
  -- with one batch more there is a transmission;
  pub one_more : found ≡ least + 1
  pub codewords : List ℕ
  pub legal : IsLegalList end codewords found R
  -- exactly so many nodes of the tree are not `Open`, and they come before the first that is, of which
  -- there is one at least;
  pub unseen : ℕ
  pub some : 0 < unseen
  pub marks : opens tree ≡ replicate limit false ++ replicate unseen true
  -- the checker accepts the tree with its `Open` nodes, and it has the shape of the search's trees.
  pub accepted : IsAcceptedFor true end R found tree
  pub shaped : IsShaped table end least (limits_of_all table least) tree

-- A plan that refuses no round is no worse than one that may. Where no search stopped, its bound is its batches;
-- and where one did, it has one batch more, and this is what is known of the round at the same limit.
pub record IsNoWorse (end : End) (R : List Page) (limit : ℕ) (bounded : BoundedPlan) : Type 0 where
  pub tight : IfNone bounded.stopped (bounded.bound ≡ bounded.plan.batches)
  pub stopped : IfSome bounded.stopped (λ stop.
      (stop.least ≡ bounded.bound) × (stop.found ≡ bounded.plan.batches)
      × IsStopped end R limit stop.least stop.found (bound_tree_of stop.tree))

-- The plan that is required for what is asked of a planner.
pub record IsPlanFor (search : Search) (R : List Page) (bounded : BoundedPlan) : Type 0 where
  -- It has a bound, and its tree has no more nodes than may be examined;
  pub plan_of : IsBounded search.end R bounded.plan bounded.bound
  pub small : closed_nodes (bound_tree_of bounded.plan.tree) ≤ search.limit
  -- below its batches the bound stands only where a search stopped at so many nodes;
  pub no_worse : IsNoWorse search.end R search.limit bounded
  -- and where only the fewest batches are an answer, the bound is the batches, and the tree has the promised
  -- shape.
  pub fewest : search.on_limit ≡ Fewest → bounded.bound ≡ bounded.plan.batches
  pub shaped : search.on_limit ≡ Fewest → IsSearchTreeFor search.end R bounded.plan.batches (bound_tree_of bounded.plan.tree)

-- A planner stops at its limit only where the fewest batches alone are an answer.
abbrev pub MayStop : OnLimit → Type 0
MayStop Fewest = Unit {0}
MayStop Always = ⊥

-- When each fault of a planner comes, and what it says.
abbrev pub ExplainsPlan : OnLimit → End → List Page → ℕ → PlanFault → Type 0
ExplainsPlan on_limit end R limit fault.BadLimit = ¬ IsNodeLimit limit
ExplainsPlan on_limit end R limit (fault.SearchLimit stop) =
    MayStop on_limit × IsNodeLimit limit × IsStopped end R limit stop.least stop.found (bound_tree_of stop.tree)
ExplainsPlan on_limit end R limit fault.OutOfMemory = IsNodeLimit limit
