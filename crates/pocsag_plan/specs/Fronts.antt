-- *Longest front*, this project's own: the first pages of a round, as many as so many batches carry; what is planned of
-- them, and why there is no front.
use Rattle.std.specs.Prelude.{◌≡◌, ℕ, ◌+◌, ◌-◌, ◌<◌, ◌≤◌, ◌⊎◌, false, List, length, take, Option, Some, None}
use Rattle.pocsag_words.specs.declared.ending.End.{End}
use Rattle.pocsag_pages.specs.declared.page.Page.{Page}
use Rattle.pocsag_pages.specs.Reading.{IsLegalList}
use Rattle.pocsag_tree.specs.BoundTrees.{BoundTree}
use Rattle.pocsag_tree.specs.Limits.{second_ranges}
use Rattle.pocsag_tree.specs.CertificateText.{HasText}
use Rattle.pocsag_tree.specs.Views.{bound_tree_of}
use Rattle.pocsag_tree.specs.declared.shape.Certificate.{Certificate}
use Rattle.pocsag_check.specs.Acceptance.{IsAcceptedFor}
use Rattle.pocsag_branch.specs.Found.{IsNodeLimit}
use Rattle.pocsag_plan.specs.declared.fault.NoFront.{NoFront}
use Rattle.pocsag_plan.specs.declared.fault.NoFront.TheVariants as fault
use Rattle.pocsag_plan.specs.declared.fault.PlanFault.TheVariants as planning
use Rattle.pocsag_plan.specs.declared.search.OnLimit.TheVariants.{Always}
use Rattle.pocsag_plan.specs.declared.search.Search.{Search}
use Rattle.pocsag_plan.specs.Plans.{IsStopped, MayStop, NoneHasFewer}

-- Some codewords are legal for the pages and the end, in at most so many batches.
pub record AreSentWithin (end : End) (R : List Page) (batches : ℕ) : Type 0 where
  pub codewords : List ℕ
  pub used : ℕ
  pub legal : IsLegalList end codewords used R
  pub few : used ≤ batches

-- *Longest front*: the first `count` pages are sent in at most so many batches; and they are all pages, or any codewords
-- whatever that are legal for one page more have more batches.
pub record IsLongestFront (end : End) (R : List Page) (batches count : ℕ) : Type 0 where
  pub among : count ≤ length R
  pub sent : AreSentWithin end (take count R) batches
  pub longest : count < length R → NoneHasFewer end (take (count + 1) R) (batches + 1)

-- A search that may examine so many nodes did not decide between so many batches and one more for the pages.
pub record IsUndecidedFor (search : Search) (R : List Page) (batches : ℕ) : Type 0 where
  pub tree : BoundTree
  pub stopped : IsStopped search.end R search.limit batches (batches + 1) tree

-- The pages need more batches; or, by a planner that refuses no round, they were not found to be sent in so many.
abbrev pub AreBeyond : Search → List Page → ℕ → Type 0
AreBeyond search R batches =
    NoneHasFewer search.end R (batches + 1) ⊎ ((search.on_limit ≡ Always) × IsUndecidedFor search R batches)

-- The front that is required for what is asked of a planner: the longest, where only the fewest batches are an answer.
pub record IsFrontFor (search : Search) (R : List Page) (batches count : ℕ) : Type 0 where
  pub some : 0 < count
  pub among : count ≤ length R
  pub sent : AreSentWithin search.end (take count R) batches
  pub longest : count < length R → AreBeyond search (take (count + 1) R) batches

-- The certificate is one for the pages and the end, which the checker accepts. It shows more batches; or it shows so many, and
-- a planner that refuses no round did not decide between so many and one more.
pub record ShowsBeyond (search : Search) (R : List Page) (batches : ℕ) (certificate : Certificate) : Type 0 where
  pub asked : certificate.end ≡ search.end
  pub accepted : IsAcceptedFor false search.end R certificate.batches (bound_tree_of certificate.tree)
  pub text : HasText second_ranges certificate.batches (bound_tree_of certificate.tree)
  pub at_least : batches ≤ certificate.batches
  pub more : (batches < certificate.batches) ⊎ ((search.on_limit ≡ Always) × IsUndecidedFor search R batches)

-- Why a front is no longer: it has all pages, or a certificate is one for one page more.
abbrev pub IsWhyNoMore : Search → List Page → (batches count : ℕ) → Option Certificate → Type 0
IsWhyNoMore search R batches count None = count ≡ length R
IsWhyNoMore search R batches count (Some certificate) =
    (count < length R) × ShowsBeyond search (take (count + 1) R) batches certificate

-- The first page alone is sent in so many batches, which are too many. It needs them; or, by a planner that refuses no round,
-- it was not found to be sent in one batch less.
pub record FirstNeeds (search : Search) (R : List Page) (batches needed : ℕ) : Type 0 where
  pub codewords : List ℕ
  pub legal : IsLegalList search.end codewords needed (take 1 R)
  pub fewest : AreBeyond search (take 1 R) (needed - 1)
  pub more : batches < needed

-- So many first pages are to be searched: they are one page; or they need so many batches at least, and one more would do; or
-- they are the front, whose plan is asked for.
abbrev pub AreToBeSearched : Search → List Page → (batches count least : ℕ) → Type 0
AreToBeSearched search R batches count least = (count ≡ 1) ⊎ (least ≡ batches) ⊎ IsFrontFor search R batches count

-- The search stopped at so many first pages of the round, which are to be searched.
pub record StopsAtFront (search : Search) (R : List Page) (batches least found : ℕ) (tree : BoundTree) : Type 0 where
  pub count : ℕ
  pub some : 0 < count
  pub among : count ≤ length R
  pub stopped : IsStopped search.end (take count R) search.limit least found tree
  pub asked : AreToBeSearched search R batches count least

-- When each fault comes, and what it says.
abbrev pub ExplainsFront : Search → List Page → (batches : ℕ) → NoFront → Type 0
ExplainsFront search R batches (fault.Plan planning.BadLimit) = ¬ IsNodeLimit search.limit
ExplainsFront search R batches (fault.Plan (planning.SearchLimit stop)) =
    MayStop search.on_limit × IsNodeLimit search.limit × StopsAtFront search R batches stop.least stop.found (bound_tree_of stop.tree)
ExplainsFront search R batches (fault.Plan planning.OutOfMemory) = IsNodeLimit search.limit
ExplainsFront search R batches (fault.FirstPage needed) = IsNodeLimit search.limit × FirstNeeds search R batches needed
