-- What a fault of the search says of the round.
use Rattle.pocsag_plan.proofs.Prelude.{◌≡◌, ◌∙◌, subst, sym, List, End, Page, IsRound, apart_pages, Classes, AreClassesOf, SearchLimit, IsNodeLimit, IsSearchFault, fault_of_search, Plan, PlanFault, Search, ExplainsPlan, IsNoWorse, MayStop, IsOutcomeFault, IsTightOrStopped, Fewest, ℕ}
use Rattle.std.proofs.Common.{Option, Some, None}
use Rattle.pocsag_branch.specs.declared.fault.SearchFault.{SearchFault}
use Rattle.pocsag_branch.specs.declared.fault.SearchFault.TheVariants as searching
use Rattle.pocsag_plan.specs.declared.fault.PlanFault.TheVariants as planning

pub explained : (k : Classes) (end : End) (R : List Page) (limit : ℕ) (fault : SearchFault) → IsRound R → AreClassesOf k end R
    → IsNodeLimit limit →
    IsSearchFault k end limit fault → ExplainsPlan Fewest end R limit (fault_of_search fault)
explained k end R limit (searching.SearchLimit stop) round classes within said =
    let sent = said.sent R round classes in (
      tt,
      within,
      record {
        table = k;
        classes = classes;
        is_least = said.is_least;
        bound = λ T n legal. said.bound R T n (apart_pages R round.good) classes legal;
        one_more = said.one_more;
        codewords = sent.0;
        legal = sent.1;
        unseen = said.unseen;
        some = said.some;
        marks = said.marks;
        accepted = record { table = k; counted = classes; accepted = said.accepted };
        shaped = said.shaped;
      },
    )
explained k end R limit searching.OutOfMemory round classes within said = within

-- a fault of a search says it of the classes
pub outcome_fault : (k : Classes) (search : Search) (fault : SearchFault) → search.on_limit ≡ Fewest →
    IsSearchFault k search.end search.limit fault → IsOutcomeFault k search (fault_of_search fault)
outcome_fault k search (searching.SearchLimit stop) fewest said = (subst MayStop (sym fewest) tt, said)
outcome_fault k search searching.OutOfMemory fewest said = tt

-- and so of a round of these
pub outcome_explained : (k : Classes) (search : Search) (R : List Page) (fault : PlanFault) → IsRound R → AreClassesOf k search.end R
    → IsNodeLimit search.limit → IsOutcomeFault k search fault → ExplainsPlan search.on_limit search.end R search.limit fault
outcome_explained k search R planning.BadLimit round classes within said = absurd said
outcome_explained k search R (planning.SearchLimit stop) round classes within said =
    (said.0, within, (explained k search.end R search.limit (searching.SearchLimit stop) round classes within said.1).2)
outcome_explained k search R planning.OutOfMemory round classes within said = within

-- what the search for the fewest knew where it stopped is so of the round
pub no_worse : (k : Classes) (end : End) (R : List Page) (limit bound batches : ℕ) (plan : Plan) (stopped : Option SearchLimit) → IsRound R
    → AreClassesOf k end R → IsNodeLimit limit → plan.batches ≡ batches → IsTightOrStopped k end limit bound batches stopped →
    IsNoWorse end R limit (record { plan = plan; bound = bound; stopped = stopped })
no_worse k end R limit bound batches plan None round classes within same is = record { tight = is.tight ∙ sym same; stopped = tt }
no_worse k end R limit bound batches plan (Some stop) round classes within same is =
    record {
      tight = tt;
      stopped = (
        is.at_limit.0,
        is.at_limit.1 ∙ sym same,
        (explained k end R limit (searching.SearchLimit stop) round classes within is.at_limit.2).2,
      );
    }
