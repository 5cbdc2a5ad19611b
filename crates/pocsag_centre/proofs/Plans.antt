-- What was planned and reported.
use Rattle.pocsag_centre.proofs.Prelude.{◌≡◌, ℕ, List, ◌++◌, refl, verdict, Page, bound_tree_of, Search, IsPlanFor, IsOfRound, WritesBounded, tight_plan, tight_stream, below_text, plan_text}
use Rattle.std.proofs.Common.{Ok}
use Rattle.pocsag_plan.specs.declared.bounded.BoundedPlan.{BoundedPlan}
use Rattle.pocsag_centre.specs.Commands.{PlannedAndPrinted, PrintedPlan}
use Rattle.pocsag_centre.specs.Refusals.{default_search}

pub told_plan : (file : List ℕ) (R : List Page) (bounded : BoundedPlan) → verdict file ≡ Ok R → IsPlanFor default_search R bounded →
    (text : List ℕ) → text ≡ plan_text bounded.plan.pages bounded.plan.batches → PrintedPlan file text
told_plan file R bounded read is text printed = record {
  plan = bounded.plan;
  plan_of = record { round = R; read = read; holds = tight_plan default_search R bounded refl is };
  printed = printed;
}

pub told_planned : (file : List ℕ) (search : Search) (tx tx' cert cert' : List ℕ) (bounded : BoundedPlan) →
    IsOfRound file (λ round. IsPlanFor search round bounded) →
    WritesBounded file search.end bounded.plan.batches bounded.bound (bound_tree_of bounded.plan.tree) tx tx' cert cert' →
    (text : List ℕ) → text ≡ plan_text bounded.plan.pages bounded.plan.batches ++ below_text bounded.plan.batches bounded.bound →
    PlannedAndPrinted file search tx tx' cert cert' text
told_planned file search tx tx' cert cert' bounded of writes text printed = record {
  bounded = bounded;
  plan_of = of;
  writes = writes;
  headline = λ same. tight_stream _ _ _ _ _ _ _ _ _ same writes;
  printed = printed;
}
