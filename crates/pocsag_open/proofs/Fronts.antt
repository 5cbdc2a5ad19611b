-- What is so where the pages of a front are taken out.
use Rattle.pocsag_open.proofs.Prelude.{◌≡◌, ◌≢◌, ℕ, ◌<◌, ◌^◌, List, [], ◌∷◌, arith, drop, refl, subst, sym, None, Option, Some, OnErr, OnOk, Result, Ok, Err, End, Row, Page, OnLimit, IsEdit, sent_record, plan_answer, IsAskedPlanned, IsFrontPlanned, PlanBytes, placed_plan, AsksForPlan, IsLineReply, planned, read, sent_first}
use Rattle.pocsag_pages.specs.Pages.{IsRound}
use Rattle.pocsag_journal.proofs.Counts.{sent_edit}

pub if_ok : {X E : Type 0} (r : Result X E) (P : Type 0) → P → OnOk r P
if_ok (Ok x) P p = p
if_ok (Err e) P p = tt

pub if_err : {X E : Type 0} (r : Result X E) (P : Type 0) → P → OnErr r P
if_err (Ok x) P p = tt
if_err (Err e) P p = p

module _ (IsKnown : Type 0) (on_limit : OnLimit) (end : End) (most : ℕ) (tx cert : List ℕ) (pages after : List Page) (count batches bound : ℕ)
    (sent : PlanBytes) (planned : IsFrontPlanned IsKnown on_limit end most pages count batches bound sent) (left_is : after ≡ drop count pages) where
  -- they are taken out by an edit
  pub front_edit : (row : Row) → row ≡ sent_record count → IsEdit row pages after
  front_edit row e =
      let small : count < 2 ^ 32 = omega (arith, planned.front.among, planned.round.few) in
      subst (λ (r : Row). IsEdit r pages after) (sym e)
      (subst (λ (ps : List Page). IsEdit (sent_record count) pages ps) (sym left_is) (sent_edit count pages planned.front.some small planned.front.among))

module _ (IsKnown : Type 0) (on_limit : OnLimit) (end : End) (pages : List Page) (batches bound : ℕ) (sent : PlanBytes) where
  -- the plan of a front is that of first pages of a round, and these are taken out by an edit
  pub front_small : (most : Option ℕ) (count : ℕ) → IsAskedPlanned IsKnown on_limit end most pages (Some count) batches bound sent → count < 2 ^ 64
  front_small (Some most) count is = omega (arith, is.front.among, is.round.few)
  front_small None count is = absurd is

  pub front_round : (most count : Option ℕ) → IsAskedPlanned IsKnown on_limit end most pages count batches bound sent → count ≢ None → IsRound pages
  front_round (Some most) (Some count) is some = is.round
  front_round most None is some = absurd (some refl)
  front_round None (Some count) is some = absurd is

  pub front_taken : (most : Option ℕ) (count : ℕ) (after : List Page) → IsAskedPlanned IsKnown on_limit end most pages (Some count) batches bound sent →
      after ≡ drop count pages → (row : Row) → row ≡ sent_record count → IsEdit row pages after
  front_taken (Some most) count after is left row e = front_edit IsKnown on_limit end most [] [] pages after count batches bound sent is left row e
  front_taken None count after is left row e = absurd is

  -- the reply to a line that asks for a plan, of all pages or of a front
  module _ (tx cert line : List ℕ) (OutputFails : Type 0) where
    pub all_replied : (most : Option ℕ) → AsksForPlan end most tx cert line → IsAskedPlanned IsKnown on_limit end most pages None batches bound sent →
        IsLineReply IsKnown OutputFails on_limit line pages pages (plan_answer batches None bound) (placed_plan tx cert sent ∷ [])
    all_replied None a is = read a.row a.short a.text (planned end tx cert batches bound sent a.asks is refl refl refl)
    all_replied (Some most) a is = absurd is

    pub front_replied : (most : Option ℕ) (count : ℕ) (after : List Page) → AsksForPlan end most tx cert line →
        IsAskedPlanned IsKnown on_limit end most pages (Some count) batches bound sent → after ≡ drop count pages →
        IsLineReply IsKnown OutputFails on_limit line pages after (plan_answer batches (Some count) bound) (placed_plan tx cert sent ∷ [])
    front_replied (Some most) count after a is left =
        read a.row a.short a.text (sent_first end most tx cert count batches bound sent a.asks is left refl refl)
    front_replied None count after a is left = absurd is
