-- What is printed of a plan, and what `plan` writes.
use Rattle.std.specs.Prelude.{◌≡◌, ℕ, List, ◌++◌}
use Rattle.pocsag_words.specs.declared.ending.End.TheVariants.{Open}
use Rattle.pocsag_tree.specs.Views.{bound_tree_of}
use Rattle.pocsag_plan.specs.declared.answer.Plan.{Plan}
use Rattle.pocsag_plan.specs.declared.bounded.BoundedPlan.{BoundedPlan}
use Rattle.pocsag_plan.specs.declared.search.Search.{Search}
use Rattle.pocsag_plan.specs.Plans.{IsPlanFor}
use Rattle.pocsag_plan.specs.Streams.{IsOfRound, IsPlanOf, Writes, WritesBounded}
use Rattle.pocsag_centre.specs.Lines.{below_text, plan_text}

-- No words: the text is the counts of a plan of the page file's round, with the open end.
pub record PrintedPlan (file text : List ℕ) : Type 0 where
  pub plan : Plan
  pub plan_of : IsPlanOf file Open plan
  pub printed : text ≡ plan_text plan.pages plan.batches

-- `plan`: what both files took more is what the headline with a bound says of the plan that is required for what is asked of the
-- page file's round; and what the headline says where the bound is the batches, as it is where only the fewest batches are an
-- answer. The text is the counts of that plan, with the bound where it is below the batches.
pub record PlannedAndPrinted (file : List ℕ) (search : Search) (tx_before tx_after cert_before cert_after text : List ℕ) : Type 0 where
  pub bounded : BoundedPlan
  pub plan_of : IsOfRound file (λ round. IsPlanFor search round bounded)
  pub writes : WritesBounded file search.end bounded.plan.batches bounded.bound (bound_tree_of bounded.plan.tree) tx_before tx_after cert_before cert_after
  pub headline : bounded.bound ≡ bounded.plan.batches
      → Writes file search.end bounded.plan.batches (bound_tree_of bounded.plan.tree) tx_before tx_after cert_before cert_after
  pub printed : text ≡ plan_text bounded.plan.pages bounded.plan.batches ++ below_text bounded.plan.batches bounded.bound
