-- What the streams of plans leave of their writers.
use Rattle.std.specs.Prelude.{◌≡◌, ◌⊎◌, ℕ, ◌+◌, ◌≤◌, List, ◌++◌, take, Option, Some, None, IfSome, IfNone, Result, Ok, Err, IsOk}
use Rattle.pocsag_words.specs.Devices.{HasFailed, TookPrefix}
use Rattle.pocsag_words.specs.declared.ending.End.{End}
use Rattle.pocsag_pages.specs.PageFile.{verdict}
use Rattle.pocsag_pages.specs.declared.fault.RoundFault.TheVariants as round
use Rattle.pocsag_pages.specs.declared.page.Page.{Page}
use Rattle.pocsag_tree.specs.BoundTrees.{BoundTree}
use Rattle.pocsag_tree.specs.Views.{bound_tree_of}
use Rattle.pocsag_branch.specs.Found.{IsNodeLimit}
use Rattle.pocsag_plan.specs.declared.answer.Plan.{Plan}
use Rattle.pocsag_plan.specs.declared.bounded.BoundedPlan.{BoundedPlan}
use Rattle.pocsag_plan.specs.declared.fault.UnsentFront.{UnsentFront}
use Rattle.pocsag_plan.specs.declared.fault.UnsentFront.TheVariants as front
use Rattle.pocsag_plan.specs.declared.fault.PlanFault.TheVariants as planning
use Rattle.pocsag_plan.specs.declared.fault.StreamFault.{StreamFault}
use Rattle.pocsag_plan.specs.declared.fault.StreamFault.TheVariants as fault
use Rattle.pocsag_plan.specs.declared.search.OnLimit.{OnLimit}
use Rattle.pocsag_plan.specs.declared.search.OnLimit.TheVariants.{Fewest}
use Rattle.pocsag_plan.specs.declared.search.Search.{Search}
use Rattle.pocsag_plan.specs.BoundedHeadline.{BoundedHeadline}
use Rattle.pocsag_plan.specs.Fronts.{IsFrontFor}
use Rattle.pocsag_plan.specs.Headline.{Headline, RoundHeadline}
use Rattle.pocsag_plan.specs.Plans.{IsBounded, IsPlan, IsStopped, MayStop}

-- The page file is that of a round of which it holds.
pub record IsOfRound (file : List ℕ) (Holds : List Page → Type 0) : Type 0 where
  pub round : List Page
  pub read : verdict file ≡ Ok round
  pub holds : Holds round

-- The plan, or the plan with its bound, is one of the round of the page file.
abbrev pub IsPlanOf : List ℕ → End → Plan → Type 0
IsPlanOf file end plan = IsOfRound file (λ round. IsPlan end round plan)

abbrev pub IsBoundedOf : List ℕ → End → BoundedPlan → Type 0
IsBoundedOf file end bounded = IsOfRound file (λ round. IsBounded end round bounded.plan bounded.bound)

-- The search stopped at the round of the page file.
abbrev pub IsStoppedAt : List ℕ → End → ℕ → (least found : ℕ) → BoundTree → Type 0
IsStoppedAt file end limit least found tree = IsOfRound file (λ round. IsStopped end round limit least found tree)

-- What both writers took more is a transmission and a certificate of which it holds.
pub record WritesAllOf (Holds : List ℕ → List ℕ → Type 0) (tx_before tx_after cert_before cert_after : List ℕ) : Type 0 where
  pub sent : List ℕ
  pub certificate : List ℕ
  pub headline : Holds sent certificate
  pub transmission : tx_after ≡ tx_before ++ sent
  pub text : cert_after ≡ cert_before ++ certificate

-- What was taken more is a prefix of the transmission.
pub record WritesPartOf (Holds : List ℕ → List ℕ → Type 0) (tx_before tx_after : List ℕ) : Type 0 where
  pub sent : List ℕ
  pub certificate : List ℕ
  pub headline : Holds sent certificate
  pub part : TookPrefix tx_before tx_after sent

-- The transmission was taken whole, and a prefix of its certificate.
pub record WritesCertificatePartOf (Holds : List ℕ → List ℕ → Type 0) (tx_before tx_after cert_before cert_after : List ℕ) : Type 0 where
  pub sent : List ℕ
  pub certificate : List ℕ
  pub headline : Holds sent certificate
  pub transmission : tx_after ≡ tx_before ++ sent
  pub part : TookPrefix cert_before cert_after certificate

-- What the headline says of a plan of the round with its bound.
abbrev pub HeadlineOf : List Page → BoundedPlan → (sent certificate : List ℕ) → Type 0
HeadlineOf round bounded =
    RoundHeadline round bounded.plan.end bounded.plan.batches bounded.bound (bound_tree_of bounded.plan.tree)

-- With some number of batches, some tree, and a bound that the batches are, or exceed by one, the headline of
-- the round holds; where only the fewest batches are an answer, they are the bound.
pub record HasHeadline (on_limit : OnLimit) (round : List Page) (end : End) (sent certificate : List ℕ) : Type 0 where
  pub batches : ℕ
  pub bound : ℕ
  pub tree : BoundTree
  pub headline : RoundHeadline round end batches bound tree sent certificate
  pub at_least : bound ≤ batches
  pub within_one : batches ≤ bound + 1
  pub fewest : on_limit ≡ Fewest → bound ≡ batches

-- What both writers took more is the transmission and the certificate of the headline of a page file, or of the
-- headline with a bound.
abbrev pub Writes : List ℕ → End → ℕ → BoundTree → List ℕ → List ℕ → List ℕ → List ℕ → Type 0
Writes file end batches tree = WritesAllOf (Headline file end batches tree)

abbrev pub WritesBounded : List ℕ → End → ℕ → ℕ → BoundTree → List ℕ → List ℕ → List ℕ → List ℕ → Type 0
WritesBounded file end batches bound tree = WritesAllOf (BoundedHeadline file end batches bound tree)

-- What was taken more is a prefix of the transmission of such a headline.
abbrev pub WritesPart : OnLimit → List ℕ → End → List ℕ → List ℕ → Type 0
WritesPart on_limit file end tx_before tx_after =
    IsOfRound file (λ round. WritesPartOf (HasHeadline on_limit round end) tx_before tx_after)

-- The transmission of such a headline was taken whole, and a prefix of its certificate.
abbrev pub WritesCertificatePart : OnLimit → List ℕ → End → List ℕ → List ℕ → List ℕ → List ℕ → Type 0
WritesCertificatePart on_limit file end tx_before tx_after cert_before cert_after =
    IsOfRound file (λ round. WritesCertificatePartOf (HasHeadline on_limit round end) tx_before tx_after cert_before cert_after)

-- The first pages that are the front for so many batches, and the headline of these.
pub record HasFrontHeadline (search : Search) (R : List Page) (most : ℕ) (sent certificate : List ℕ) : Type 0 where
  pub count : ℕ
  pub front : IsFrontFor search R most count
  pub headline : HasHeadline search.on_limit (take count R) search.end sent certificate

-- When each fault of a stream comes, and what it says.
abbrev pub ExplainsStream : OnLimit → List ℕ → End → ℕ → StreamFault → Type 0
ExplainsStream on_limit file end limit (fault.Plan planning.BadLimit) = ¬ IsNodeLimit limit
ExplainsStream on_limit file end limit (fault.Round f) =
    IsNodeLimit limit × ((f ≡ round.OutOfMemory) ⊎ (f ≡ round.ReadFault) ⊎ (verdict file ≡ Err f))
ExplainsStream on_limit file end limit (fault.Plan (planning.SearchLimit stop)) =
    MayStop on_limit × IsNodeLimit limit × IsStoppedAt file end limit stop.least stop.found (bound_tree_of stop.tree)
ExplainsStream on_limit file end limit (fault.Plan planning.OutOfMemory) = IsNodeLimit limit × IsOk (verdict file)
ExplainsStream on_limit file end limit (fault.Transmission f) = IsNodeLimit limit × IsOk (verdict file)
ExplainsStream on_limit file end limit (fault.Certificate f) = IsNodeLimit limit × IsOk (verdict file)

-- The fault of a search that stopped at its limit.
abbrev pub IsSearchLimit : StreamFault → Type 0
IsSearchLimit (fault.Plan planning.BadLimit) = ⊥
IsSearchLimit (fault.Plan (planning.SearchLimit stop)) = Unit {0}
IsSearchLimit (fault.Plan planning.OutOfMemory) = ⊥
IsSearchLimit (fault.Round f) = ⊥
IsSearchLimit (fault.Transmission f) = ⊥
IsSearchLimit (fault.Certificate f) = ⊥

-- A fault that comes before the first write.
abbrev pub IsBeforeWriting : StreamFault → Type 0
IsBeforeWriting (fault.Plan f) = Unit {0}
IsBeforeWriting (fault.Round f) = Unit {0}
IsBeforeWriting (fault.Transmission f) = ⊥
IsBeforeWriting (fault.Certificate f) = ⊥

-- A fault of the writer of the transmission, or of that of the certificate.
abbrev pub IsTransmission : StreamFault → Type 0
IsTransmission (fault.Plan f) = ⊥
IsTransmission (fault.Round f) = ⊥
IsTransmission (fault.Transmission f) = Unit {0}
IsTransmission (fault.Certificate f) = ⊥

abbrev pub IsCertificate : StreamFault → Type 0
IsCertificate (fault.Plan f) = ⊥
IsCertificate (fault.Round f) = ⊥
IsCertificate (fault.Transmission f) = ⊥
IsCertificate (fault.Certificate f) = Unit {0}

-- A fault of one of the two writers.
abbrev pub IsUnsent : StreamFault → Type 0
IsUnsent (fault.Plan f) = ⊥
IsUnsent (fault.Round f) = ⊥
IsUnsent (fault.Transmission f) = Unit {0}
IsUnsent (fault.Certificate f) = Unit {0}

-- The fault of a front is one of a stream of which this is said.
abbrev pub OfStream : (StreamFault → Type 0) → UnsentFront → Type 0
OfStream Is (front.Stream f) = Is f
OfStream Is (front.FirstPage needed) = ⊥

-- It is that not even the first page fits.
abbrev pub IsFirstPage : UnsentFront → Type 0
IsFirstPage (front.Stream f) = ⊥
IsFirstPage (front.FirstPage needed) = Unit {0}

-- The fault that a stream answers, if any.
abbrev pub fault_in : {X : Type 0} → Result X StreamFault → Option StreamFault
fault_in (Ok x) = None
fault_in (Err e) = Some e

-- The fault that a front answers, if it is one of a stream: that the first page does not fit is none.
abbrev pub unsent_fault_in : {X : Type 0} → Result X UnsentFront → Option StreamFault
unsent_fault_in (Ok x) = None
unsent_fault_in (Err (front.Stream f)) = Some f
unsent_fault_in (Err (front.FirstPage needed)) = None

-- The two writers take turns, whatever fault a stream answers, if any. The two functions are how often each writer failed.
pub record WritesInTurn {T C : Type 0} (failures : T → ℕ) (certificate_failures : C → ℕ) (tx tx_after : T) (cert cert_after : C) (answered : Option StreamFault) : Type 0 where
  -- What comes before the first write leaves both as they were;
  pub untouched : IfSome answered (λ e. IsBeforeWriting e → (tx_after ≡ tx) × (cert_after ≡ cert))
  -- the second is as it was unless the first took all;
  pub not_begun : IfSome answered (λ e. IsTransmission e → cert_after ≡ cert)
  -- the fault of a writer is answered only where that writer failed;
  pub write_failed : IfSome answered (λ e. IsTransmission e → HasFailed (failures tx) (failures tx_after))
  pub certificate_failed : IfSome answered (λ e. IsCertificate e → HasFailed (certificate_failures cert) (certificate_failures cert_after))
  -- and no other failed.
  pub write_succeeded : IfSome answered (λ e. IsCertificate e → failures tx_after ≡ failures tx)
  pub succeeded : IfNone answered ((failures tx_after ≡ failures tx) × (certificate_failures cert_after ≡ certificate_failures cert))
