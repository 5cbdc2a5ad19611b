-- What is sent by a plan is what the headline with its bound says.
use Rattle.pocsag_plan.proofs.Prelude.{◌≡◌, ◌<◌, ℕ, List, ◌++◌, length, take, ap, arith, refl, sym, subst, ◌∙◌, slice_index, Ok, Kind, End, Page, verdict, written_text, BoundTree, bound_tree_of, Step, HavePlaces, laid_by, Fewest, Search, IsFrontFor, IsLongestFront, IsBounded, IsPlan, IsPlanFor, HasFrontHeadline, HasHeadline, HeadlineOf, IsOfRound, Writes, WritesAllOf, WritesBounded, WritesCertificatePartOf, WritesPartOf}
use Rattle.std.proofs.Math.Seq.{take-append_seam}
use Rattle.pocsag_pages.specs.Bytes.{bytes_of}
use Rattle.pocsag_slots.proofs.Fewest.{laid_list_legal}
use Rattle.pocsag_batch.specs.Meanings.{Say}
use Rattle.pocsag_batch.proofs.OrderLaws.{order_lays}
use Rattle.pocsag_batch.proofs.Orders.{order_has_places}
use Rattle.pocsag_plan.specs.declared.bounded.BoundedPlan.{BoundedPlan}
use Rattle.pocsag_plan.specs.BoundedHeadline.{BoundedHeadline, IsHeadlineWhereTight}
use Rattle.pocsag_plan.specs.Headline.{RoundHeadline}

-- What is sent for a plan of a round is what its headline says.
module _ (R : List Page) (bounded : BoundedPlan) (is : IsBounded bounded.plan.end R bounded.plan bounded.bound) where
  pub due : (steps : List Step) (order : List ℕ) (said : List Kind) (U : List ℕ) →
      steps ≡ bounded.plan.steps.items → order ≡ bounded.plan.order.items → said ≡ laid_by R order steps → Say said U →
      HeadlineOf R bounded (bytes_of U) (written_text bounded.plan.end bounded.bound (bound_tree_of bounded.plan.tree))
  due steps order said U these places lays say =
      let plan = bounded.plan in
      let view : laid_by R order steps ≡ laid_by R plan.order.items plan.steps.items =
      ap (λ (v : List ℕ). laid_by R v steps) places ∙ ap (λ (v : List Step). laid_by R plan.order.items v) these in
      let some : 0 < plan.batches = omega (arith, is.accepted.accepted.some, is.at_least) in
      record {
        codewords = U;
        legal = laid_list_legal is.table plan.end (slice_index plan.choice.early) plan.batches plan.steps.items R U some is.classes
            is.tour say.codewords
            (say.kinds ∙ (lays ∙ (view ∙ order_lays plan.end R plan.steps.items plan.order.items is.order)));
        transmission = refl;
        fewest = is.fewest;
        text = record { has_text = is.text; text = refl };
        accepted = is.accepted;
      }

  pub has_places : (steps : List Step) (order : List ℕ) → steps ≡ bounded.plan.steps.items → order ≡ bounded.plan.order.items →
      HavePlaces (length R) order steps
  has_places steps order these places =
      subst (λ (v : List Step). HavePlaces (length R) order v) (sym these)
      (subst (λ (v : List ℕ). HavePlaces (length R) v bounded.plan.steps.items) (sym places)
      (order_has_places bounded.plan.end R bounded.plan.steps.items bounded.plan.order.items is.order))

-- What is so of a transmission and its certificate carries over to what was taken more.
module _ (P Q : (sent certificate : List ℕ) → Type 0) (each : (sent certificate : List ℕ) → P sent certificate → Q sent certificate) where
  pub all_as : (tx tx' cert cert' : List ℕ) → WritesAllOf P tx tx' cert cert' → WritesAllOf Q tx tx' cert cert'
  all_as tx tx' cert cert' is = record {
    sent = is.sent;
    certificate = is.certificate;
    headline = each is.sent is.certificate is.headline;
    transmission = is.transmission;
    text = is.text;
  }

  pub part_as : (tx tx' : List ℕ) → WritesPartOf P tx tx' → WritesPartOf Q tx tx'
  part_as tx tx' is = record {
    sent = is.sent;
    certificate = is.certificate;
    headline = each is.sent is.certificate is.headline;
    part = is.part;
  }

  pub certificate_part_as : (tx tx' cert cert' : List ℕ) → WritesCertificatePartOf P tx tx' cert cert' → WritesCertificatePartOf Q tx tx' cert cert'
  certificate_part_as tx tx' cert cert' is = record {
    sent = is.sent;
    certificate = is.certificate;
    headline = each is.sent is.certificate is.headline;
    transmission = is.transmission;
    part = is.part;
  }

-- where the bound is the batches, it is the headline
pub tight : IsHeadlineWhereTight
tight file end batches tree sent certificate = (
  (λ is. record { round = is.round; read = is.read; of_round = is.of_round }),
  (λ is. record {
    round = is.round;
    read = is.read;
    of_round = is.of_round;
    at_least = omega arith;
    within_one = omega arith;
  }),
)

pub tight_stream : (file : List ℕ) (end : End) (batches bound : ℕ) (tree : BoundTree) (tx tx' cert cert' : List ℕ) → bound ≡ batches →
    WritesBounded file end batches bound tree tx tx' cert cert' → Writes file end batches tree tx tx' cert cert'
tight_stream file end batches bound tree tx tx' cert cert' same is =
    all_as _ _ (λ sent certificate h. (tight file end batches tree sent certificate).0
    (subst (λ (n : ℕ). BoundedHeadline file end batches n tree sent certificate) same h)) tx tx' cert cert' is

pub tight_plan : (search : Search) (R : List Page) (bounded : BoundedPlan) → search.on_limit ≡ Fewest → IsPlanFor search R bounded →
    IsPlan search.end R bounded.plan
tight_plan search R bounded fewest is = record {
  bounded = subst (λ (n : ℕ). IsBounded search.end R bounded.plan n) (is.fewest fewest) is.plan_of;
  shaped = is.shaped fewest;
}

module _ (search : Search) (R : List Page) (bounded : BoundedPlan) (is : IsPlanFor search R bounded) where
  -- what is sent for the plan is the headline of the round for the end that is asked for, with the bound
  pub asked_headline : (sent certificate : List ℕ) → HeadlineOf R bounded sent certificate →
      RoundHeadline R search.end bounded.plan.batches bounded.bound (bound_tree_of bounded.plan.tree) sent certificate
  asked_headline sent certificate h =
      subst (λ (end : End). RoundHeadline R end bounded.plan.batches bounded.bound (bound_tree_of bounded.plan.tree) sent certificate)
      is.plan_of.asked h

  pub has_headline : (sent certificate : List ℕ) → HeadlineOf R bounded sent certificate →
      HasHeadline search.on_limit R search.end sent certificate
  has_headline sent certificate h = record {
    batches = bounded.plan.batches;
    bound = bounded.bound;
    tree = bound_tree_of bounded.plan.tree;
    headline = asked_headline sent certificate h;
    at_least = is.plan_of.at_least;
    within_one = is.plan_of.within_one;
    fewest = is.fewest;
  }

  -- and of a page file of the round
  pub file_headline : (file : List ℕ) → verdict file ≡ Ok R → (sent certificate : List ℕ) → HeadlineOf R bounded sent certificate →
      BoundedHeadline file search.end bounded.plan.batches bounded.bound (bound_tree_of bounded.plan.tree) sent certificate
  file_headline file read sent certificate h = record {
    round = R;
    read = read;
    of_round = asked_headline sent certificate h;
    at_least = is.plan_of.at_least;
    within_one = is.plan_of.within_one;
  }

-- what is so of the round of a page file carries over
pub of_round_as : (file : List ℕ) (P Q : List Page → Type 0) → ((round : List Page) → P round → Q round) → IsOfRound file P → IsOfRound file Q
of_round_as file P Q each is = record { round = is.round; read = is.read; holds = each is.round is.holds }

-- What is planned of the first pages of a book.
module _ (search : Search) (R round F rest : List Page) (batches : ℕ) (bounded : BoundedPlan) (same : round ≡ R) (parts : F ++ rest ≡ round)
    (is : IsPlanFor search F bounded) where
  first_pages : F ≡ take bounded.plan.pages R
  first_pages = sym (ap (λ (n : ℕ). take n R) is.plan_of.pages ∙ (ap (take (length F)) (sym (parts ∙ same)) ∙ take-append_seam F rest))

  pub book_front : IsFrontFor search round batches (length F) → IsFrontFor search R batches bounded.plan.pages
  book_front front = subst (IsFrontFor search R batches) (sym is.plan_of.pages) (subst (λ (v : List Page). IsFrontFor search v batches (length F)) same front)

  pub book_longest : IsLongestFront search.end round batches (length F) → IsLongestFront search.end R batches bounded.plan.pages
  book_longest front =
      subst (IsLongestFront search.end R batches) (sym is.plan_of.pages)
      (subst (λ (v : List Page). IsLongestFront search.end v batches (length F)) same front)

  pub first_plan : IsPlanFor search (take bounded.plan.pages R) bounded
  first_plan = subst (λ (v : List Page). IsPlanFor search v bounded) first_pages is

  pub first_has_headline : IsFrontFor search round batches (length F) → (sent certificate : List ℕ) → HeadlineOf F bounded sent certificate →
      HasFrontHeadline search R batches sent certificate
  first_has_headline front sent certificate h = record {
    count = bounded.plan.pages;
    front = book_front front;
    headline = has_headline search (take bounded.plan.pages R) bounded first_plan sent certificate
        (subst (λ (v : List Page). HeadlineOf v bounded sent certificate) first_pages h);
  }

  pub first_headline : (sent certificate : List ℕ) → HeadlineOf F bounded sent certificate →
      RoundHeadline (take bounded.plan.pages R) search.end bounded.plan.batches bounded.bound (bound_tree_of bounded.plan.tree) sent certificate
  first_headline sent certificate h =
      asked_headline search (take bounded.plan.pages R) bounded first_plan sent certificate
      (subst (λ (v : List Page). HeadlineOf v bounded sent certificate) first_pages h)
