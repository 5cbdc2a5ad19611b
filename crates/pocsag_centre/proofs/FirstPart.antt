-- The first pages of a round: their front, and those that were sent.
use Rattle.pocsag_centre.proofs.Prelude.{◌≡◌, ℕ, ◌<◌, ◌≤◌, List, ◌++◌, length, min, take, sym, ap, subst, ◌∙◌, arith, length-take-le, take_at, take_min, Page, unless_empty, firsts, left_of, FrontPlan, IsFrontFor, IsLongestFront, IsWhyNoMore, IsPlanFor, IsFrontOfPages, sent_of, planned_of, FrontAsked, Err, Ok}
use Rattle.pocsag_pages.specs.declared.fault.RoundFault.TheVariants as fault
use Rattle.pocsag_pages.proofs.Judgements.{some_queue}
use Rattle.pocsag_plan.specs.declared.search.OnLimit.TheVariants.{Fewest}

pub first_is : (R F S : List Page) (n : ℕ) → F ++ S ≡ R → n ≡ length F → F ≡ take n R
first_is R F S n parts long = sym (subst (λ (v : List Page). take n v ≡ F) parts (take_at F S n (sym long)))

-- What is planned of a round, which is the first of these pages, is their front.
module _ (asked : FrontAsked) (Q R : List Page) (front : FrontPlan) (same : R ≡ firsts Q) where
  pub front_of_pages : front.round ≡ take (length front.round) R → front.rest.items ≡ left_of front.round Q
      → IsFrontFor asked.search R asked.batches (length front.round)
      → (asked.search.on_limit ≡ Fewest → IsLongestFront asked.search.end R asked.batches (length front.round))
      → IsPlanFor asked.search front.round front.bounded
      → front.bounded.plan.batches ≤ asked.batches
      → IsWhyNoMore asked.search R asked.batches (length front.round) front.why
      → IsFrontOfPages asked Q front
  front_of_pages first left front_for longest plan_of within no_more = record {
    first = subst (λ (v : List Page). front.round ≡ take (length front.round) v) same first;
    left = left;
    front_for = subst (λ (v : List Page). IsFrontFor asked.search v asked.batches (length front.round)) same front_for;
    longest = λ fewest. subst (λ (v : List Page). IsLongestFront asked.search.end v asked.batches (length front.round)) same (longest fewest);
    plan_of = plan_of;
    within = within;
    no_more = subst (λ (v : List Page). IsWhyNoMore asked.search v asked.batches (length front.round) front.why) same no_more;
  }

-- The pages of a front that was sent.
module _ (asked : FrontAsked) (Q R : List Page) (count k : ℕ) (same : R ≡ firsts (planned_of asked Q)) (least : k ≡ min count (length R)) where
  pub pages_sent : 0 < k → sent_of asked count (Ok Q) ≡ Ok (take k R)
  pages_sent some =
      let long : length (take k R) ≡ k = length-take-le k R (omega arith) in
      let taken : take k R ≡ take count (firsts (planned_of asked Q)) =
      ap (λ (m : ℕ). take m R) least ∙ take_min count R ∙ ap (take count) same in
      subst (λ (v : List Page). unless_empty v ≡ Ok (take k R)) taken (some_queue (take k R) (omega arith))

  pub no_pages_sent : k ≡ 0 → 0 < length R → sent_of asked count (Ok Q) ≡ Err fault.NoPages
  no_pages_sent zero some =
      let none : count ≡ 0 = omega arith in
      ap (λ (m : ℕ). unless_empty (take m (firsts (planned_of asked Q)))) none
