-- What `pocsag_plan_at_most` promises.
use Rattle.std.specs.Prelude.{◌≡◌, ◌≢◌, ◌⊎◌, ℕ, ◌+◌, List, [], Option, Some, None, IsOk, drop, length, take}
use Rattle.pocsag_pages.specs.PageFile.{verdict}
use Rattle.pocsag_pages.specs.PageList.{unless_empty}
use Rattle.pocsag_tree.specs.BoundTrees.{BoundTree}
use Rattle.pocsag_tree.specs.CertificateText.{written_text}
use Rattle.pocsag_tree.specs.Views.{bound_tree_of}
use Rattle.pocsag_tree.specs.declared.shape.Certificate.{Certificate}
use Rattle.pocsag_branch.specs.Found.{IsNodeLimit}
use Rattle.pocsag_plan.specs.Fronts.{ExplainsFront, IsFrontFor, IsLongestFront, IsWhyNoMore}
use Rattle.pocsag_plan.specs.Headline.{RoundHeadline}
use Rattle.pocsag_plan.specs.Plans.{IsNoWorse}
use Rattle.pocsag_plan.specs.Streams.{IsOfRound}
use Rattle.pocsag_plan.specs.Verdicts.{ExplainsRound}
use Rattle.pocsag_plan.specs.declared.bounded.BoundedPlan.{BoundedPlan}
use Rattle.pocsag_plan.specs.declared.fault.NoFront.TheVariants as unplanned
use Rattle.pocsag_plan.specs.declared.fault.PlanFault.TheVariants as planning
use Rattle.pocsag_plan.specs.declared.fault.StreamFault.TheVariants as stream
use Rattle.pocsag_plan.specs.declared.fault.UnsentFront.{UnsentFront}
use Rattle.pocsag_plan.specs.declared.fault.UnsentFront.TheVariants as unsent
use Rattle.pocsag_plan.specs.declared.search.Search.{Search}
use Rattle.pocsag_c.specs.Answers.{IsDelivered, IsSoOfEnd, IsTooSmall}
use Rattle.pocsag_c.specs.Plans.{AreCountsOf, IsWithoutRoom}
use Rattle.pocsag_c.specs.Reports.{IsSoAsAsked}
use Rattle.pocsag_c.specs.declared.front.FrontInfo.{FrontInfo}
use Rattle.pocsag_c.specs.declared.refusal.Place.{Place}

-- There is a front: it stands in the buffers, or one of them is too small.
abbrev pub IsFront : (status : ℕ) → Type 0
IsFront status = (status ≡ 0) ⊎ IsWithoutRoom status ⊎ (status ≡ 13) ⊎ (status ≡ 14)

-- There is none, though the end is one.
abbrev pub IsWithoutFront : (status : ℕ) → Type 0
IsWithoutFront status =
    (status ≢ 0) × (status ≢ 2) × (status ≢ 7) × (status ≢ 8) × (status ≢ 13) × (status ≢ 14)

-- The first pages that are reported are the longest front of the page file's round that so many batches carry, for the end of
-- this number.
abbrev pub IsLongestTold : (file : List ℕ) → (number batches : ℕ) → FrontInfo → Type 0
IsLongestTold file number batches info =
    IsSoOfEnd number (λ end. IsOfRound file (λ round. IsLongestFront end round batches info.pages))

-- They are the front that a planner of this effort promises, with this limit.
abbrev pub IsRequiredFront : (file : List ℕ) → (number limit always batches : ℕ) → FrontInfo → Type 0
IsRequiredFront file number limit always batches info =
    IsSoAsAsked number limit always (λ search. IsOfRound file (λ round. IsFrontFor search round batches info.pages))

-- The counts are those of the first pages that are reported, and of the others.
abbrev pub IsCountedFirst : (file : List ℕ) → FrontInfo → Type 0
IsCountedFirst file info = IsOfRound file (λ round.
    (info.pages + info.left ≡ length round) × AreCountsOf (take info.pages round) info.codewords info.in_order)

-- The headline of the first pages that are reported, with the bound and the batches that are reported.
abbrev pub IsFrontHeadline : (file : List ℕ) → (number : ℕ) → FrontInfo → (sent certificate : List ℕ) → Type 0
IsFrontHeadline file number info sent certificate = IsSoOfEnd number (λ end. (tree : BoundTree)
    × IsOfRound file (λ round. RoundHeadline (take info.pages round) end info.batches info.bound tree sent certificate))

-- Where their bound is below their batches, the search for the fewest stops at the same limit, and this is what it knows of
-- them then.
abbrev pub IsNoWorseFront : (file : List ℕ) → (number limit always : ℕ) → FrontInfo → Type 0
IsNoWorseFront file number limit always info = IsSoAsAsked number limit always (λ search.
    (bounded : BoundedPlan) × (info.batches ≡ bounded.plan.batches) × (info.bound ≡ bounded.bound)
    × IsOfRound file (λ round. IsNoWorse search.end (take info.pages round) search.limit bounded))

-- The text is a page file of the pages behind them: it reads as their round, or, where there are none, as no pages.
abbrev pub IsRestOf : (file : List ℕ) → FrontInfo → (text : List ℕ) → Type 0
IsRestOf file info text = IsOfRound file (λ round. verdict text ≡ unless_empty (drop info.pages round))

-- The bytes and the bound of a certificate of one page more; where there is none, no byte and 0.
abbrev pub IsWrittenWhy : Option Certificate → (text : List ℕ) → (bound : ℕ) → Type 0
IsWrittenWhy None text bound = (text ≡ []) × (bound ≡ 0)
IsWrittenWhy (Some c) text bound = (text ≡ written_text c.end c.batches (bound_tree_of c.tree)) × (bound ≡ c.batches)

-- The text is the certificate of one page more than so many, with this bound; or no byte, where no page is left.
pub record IsTextOfWhy (search : Search) (file : List ℕ) (batches count : ℕ) (text : List ℕ) (bound : ℕ) : Type 0 where
  pub why : Option Certificate
  pub shows : IsOfRound file (λ round. IsWhyNoMore search round batches count why)
  pub written : IsWrittenWhy why text bound

-- The same behind the pages that are reported, with the bound that is reported.
abbrev pub IsBeyond : (file : List ℕ) → (number limit always batches : ℕ) → FrontInfo → (text : List ℕ) → Type 0
IsBeyond file number limit always batches info text =
    IsSoAsAsked number limit always (λ search. IsTextOfWhy search file batches info.pages text info.beyond)

-- The buffer begins with the bytes; or it has no byte, and their length alone is reported.
abbrev pub IsPutIfWanted : (before after : List ℕ) → (told : ℕ) → (bytes : List ℕ) → Type 0
IsPutIfWanted before after told bytes =
    IsDelivered before after told bytes ⊎ ((length before ≡ 0) × IsTooSmall before after told bytes)

-- The same of a text of which this is said.
pub record IsGivenIfWanted (IsText : List ℕ → Type 0) (before after : List ℕ) (told : ℕ) : Type 0 where
  pub text : List ℕ
  pub is : IsText text
  pub put : IsPutIfWanted before after told text

-- The length that is reported is that of a text of which this is said.
pub record HasLengthOf (IsText : List ℕ → Type 0) (told : ℕ) : Type 0 where
  pub text : List ℕ
  pub is : IsText text
  pub length_told : told ≡ length text

-- What is reported beside the place where there is no front.
abbrev pub no_front : Place → FrontInfo
no_front place = record {
  pages = 0;
  left = 0;
  codewords = 0;
  in_order = 0;
  batches = 0;
  bound = 0;
  beyond = 0;
  place = place;
}

-- Why a page file has no front. The limit is judged before the file; a fault of writing is want of memory.
abbrev pub ExplainsUnfronted : (file : List ℕ) → Search → (batches : ℕ) → UnsentFront → Type 0
ExplainsUnfronted file search batches (unsent.Stream (stream.Plan planning.BadLimit)) = ¬ IsNodeLimit search.limit
ExplainsUnfronted file search batches (unsent.Stream (stream.Plan (planning.SearchLimit stop))) =
    IsOfRound file (λ round. ExplainsFront search round batches (unplanned.Plan (planning.SearchLimit stop)))
ExplainsUnfronted file search batches (unsent.Stream (stream.Plan planning.OutOfMemory)) = IsNodeLimit search.limit × IsOk (verdict file)
ExplainsUnfronted file search batches (unsent.Stream (stream.Round f)) = IsNodeLimit search.limit × ExplainsRound file f
ExplainsUnfronted file search batches (unsent.Stream (stream.Transmission f)) = IsNodeLimit search.limit × IsOk (verdict file)
ExplainsUnfronted file search batches (unsent.Stream (stream.Certificate f)) = IsNodeLimit search.limit × IsOk (verdict file)
ExplainsUnfronted file search batches (unsent.FirstPage needed) =
    IsOfRound file (λ round. ExplainsFront search round batches (unplanned.FirstPage needed))

-- The same, of what the numbers of a call ask.
abbrev pub ExplainsFrontPlanning : (file : List ℕ) → (number limit always batches : ℕ) → UnsentFront → Type 0
ExplainsFrontPlanning file number limit always batches f =
    IsSoAsAsked number limit always (λ search. ExplainsUnfronted file search batches f)
