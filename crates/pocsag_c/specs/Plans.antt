-- What `pocsag_plan` promises.
use Rattle.std.specs.Prelude.{◌≡◌, ◌≢◌, ◌⊎◌, ℕ, ◌*◌, List, length, sum_by}
use Rattle.pocsag_words.specs.declared.codeword.Kind.{Kind}
use Rattle.pocsag_pages.specs.declared.page.Page.{Page}
use Rattle.pocsag_pages.specs.Reading.{page_length}
use Rattle.pocsag_tree.specs.BoundTrees.{BoundTree}
use Rattle.pocsag_batch.specs.FileOrder.{IsFileOrder}
use Rattle.pocsag_plan.specs.BoundedHeadline.{BoundedHeadline}
use Rattle.pocsag_plan.specs.Headline.{Headline}
use Rattle.pocsag_plan.specs.Plans.{IsNoWorse}
use Rattle.pocsag_plan.specs.Streams.{ExplainsStream, IsOfRound}
use Rattle.pocsag_plan.specs.declared.bounded.BoundedPlan.{BoundedPlan}
use Rattle.pocsag_plan.specs.declared.fault.StreamFault.{StreamFault}
use Rattle.pocsag_c.specs.Answers.{IsDelivered, IsSoOfEnd}
use Rattle.pocsag_c.specs.Reports.{IsSoAsAsked}
use Rattle.pocsag_c.specs.declared.plan.PlanInfo.{PlanInfo}
use Rattle.pocsag_c.specs.declared.refusal.Place.{Place}

-- The headline of the page file, the end of this number, and the batches that are reported.
abbrev pub IsHeadline : (file : List ℕ) → (number : ℕ) → PlanInfo → (sent certificate : List ℕ) → Type 0
IsHeadline file number info sent certificate =
    IsSoOfEnd number (λ end. (tree : BoundTree) × Headline file end info.batches tree sent certificate)

-- The same with the bound that is reported.
abbrev pub IsHeadlineWithBound : (file : List ℕ) → (number : ℕ) → PlanInfo → (sent certificate : List ℕ) → Type 0
IsHeadlineWithBound file number info sent certificate =
    IsSoOfEnd number (λ end. (tree : BoundTree) × BoundedHeadline file end info.batches info.bound tree sent certificate)

-- A transmission and a certificate of which this is said stand in both buffers, with their lengths reported.
pub record IsPlannedInto (Says : (sent certificate : List ℕ) → Type 0) (tx tx_after : List ℕ) (tx_told : ℕ)
    (cert cert_after : List ℕ) (cert_told : ℕ) : Type 0 where
  pub sent : List ℕ
  pub certificate : List ℕ
  pub says : Says sent certificate
  pub transmission : IsDelivered tx tx_after tx_told sent
  pub text : IsDelivered cert cert_after cert_told certificate

-- The lengths that are reported are those of a transmission and a certificate of which this is said.
pub record HasNoRoomForBoth (Says : (sent certificate : List ℕ) → Type 0) (tx_told cert_told : ℕ) : Type 0 where
  pub sent : List ℕ
  pub certificate : List ℕ
  pub says : Says sent certificate
  pub transmission : tx_told ≡ length sent
  pub text : cert_told ≡ length certificate

-- One of the two buffers is too small.
abbrev pub IsWithoutRoom : (status : ℕ) → Type 0
IsWithoutRoom status = (status ≡ 7) ⊎ (status ≡ 8)

-- There is no plan, though the end is one.
abbrev pub IsWithoutPlan : (status : ℕ) → Type 0
IsWithoutPlan status = (status ≢ 0) × (status ≢ 2) × (status ≢ 7) × (status ≢ 8)

-- These pages have so many codewords, and take so many batches in file order.
abbrev pub AreCountsOf : List Page → (codewords in_order : ℕ) → Type 0
AreCountsOf pages codewords in_order =
    (codewords ≡ sum_by page_length pages) × ((T : List Kind) → IsFileOrder pages T → length T ≡ 16 * in_order)

-- The counts are those of the page file's round.
abbrev pub IsCounted : (file : List ℕ) → PlanInfo → Type 0
IsCounted file info = IsOfRound file (λ round. (info.pages ≡ length round) × AreCountsOf round info.codewords info.in_order)

-- What is reported beside the place where there is no plan.
abbrev pub no_plan : Place → PlanInfo
no_plan place = record { pages = 0; codewords = 0; in_order = 0; batches = 0; bound = 0; place = place }

-- Where the bound that is reported is below the batches, the search for the fewest stops at the same limit, and this is what it
-- knows of the page file's round then.
abbrev pub IsNoWorseTold : (file : List ℕ) → (number limit always : ℕ) → PlanInfo → Type 0
IsNoWorseTold file number limit always info = IsSoAsAsked number limit always (λ search.
    (bounded : BoundedPlan) × (info.batches ≡ bounded.plan.batches) × (info.bound ≡ bounded.bound)
    × IsOfRound file (λ round. IsNoWorse search.end round search.limit bounded))

-- Why there is no plan.
abbrev pub ExplainsPlanning : (file : List ℕ) → (number limit always : ℕ) → StreamFault → Type 0
ExplainsPlanning file number limit always f =
    IsSoAsAsked number limit always (λ search. ExplainsStream search.on_limit file search.end search.limit f)
