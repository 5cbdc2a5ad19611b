-- The front of a page file: what is written of the pages that are sent and of the others, and why nothing is. Where pages may
-- wait for earlier ones of their address, the round is the first page of each address that is planned; else the file has no two for
-- one.
use Rattle.std.specs.Prelude.{◌≡◌, ℕ, ◌≤◌, Bool, true, false, List, [], ◌++◌, length, take, Option, Some, None, IsOk, Result, Ok, Err}
use Rattle.pocsag_pages.specs.declared.page.Page.{Page}
use Rattle.pocsag_pages.specs.declared.fault.RoundFault.{RoundFault}
use Rattle.pocsag_pages.specs.PageFile.{held_pages}
use Rattle.pocsag_pages.specs.Queues.{firsts, left_of}
use Rattle.pocsag_pages.specs.PageList.{unless_empty}
use Rattle.pocsag_tree.specs.BoundTrees.{BoundTree}
use Rattle.pocsag_tree.specs.CertificateText.{HasText, written_text}
use Rattle.pocsag_tree.specs.Limits.{second_ranges}
use Rattle.pocsag_tree.specs.declared.shape.Certificate.{Certificate}
use Rattle.pocsag_tree.specs.Views.{bound_tree_of}
use Rattle.pocsag_decode.specs.PageFiles.{page_file}
use Rattle.pocsag_branch.specs.Found.{IsNodeLimit}
use Rattle.pocsag_plan.specs.declared.search.OnLimit.TheVariants.{Fewest}
use Rattle.pocsag_plan.specs.declared.front.FrontPlan.{FrontPlan}
use Rattle.pocsag_plan.specs.Fronts.{FirstNeeds, IsFrontFor, IsLongestFront, IsWhyNoMore, StopsAtFront}
use Rattle.pocsag_plan.specs.Plans.{IsPlanFor, MayStop}
use Rattle.pocsag_shell.specs.declared.fault.FileFault.TheVariants as file_fault
use Rattle.pocsag_centre.specs.Checks.{ExplainsHeld, HoldsPages, IsExpected, IsOfHeld, IsUnexpected}
use Rattle.pocsag_centre.specs.Lines.{aside_text, below_text, left_text, plan_text, undecided_text}
use Rattle.pocsag_centre.specs.Oversized.{aside_of, planned_of}
use Rattle.pocsag_centre.specs.declared.front.FrontAsked.{FrontAsked}
use Rattle.pocsag_centre.specs.declared.readback.WrittenFront.{WrittenFront}
use Rattle.pocsag_centre.specs.declared.fault.CentreFault.{CentreFault}
use Rattle.pocsag_centre.specs.declared.fault.CentreFault.TheVariants as fault

-- The bytes are a page file of exactly these pages: it holds them, or, where there are none, no pages.
abbrev pub IsPageFileOf : (may_wait : Bool) → List Page → List ℕ → Type 0
IsPageFileOf may_wait ps rest = held_pages may_wait rest ≡ unless_empty ps

-- The line on a front of at most so many batches: what the certificate for one page more shows, where there is one.
abbrev pub why_text : (batches : ℕ) → Option Certificate → List ℕ
why_text batches None = []
why_text batches (Some c) = undecided_text batches c.batches

-- The lines behind those on the plan of a front: how many pages are left, what is shown of one page more, and how many pages are set
-- aside.
abbrev pub others_text : FrontAsked → FrontPlan → (aside : List Page) → List ℕ
others_text asked front aside =
    left_text (length front.rest.items) ++ why_text asked.batches front.why ++ aside_text asked.sets_aside (length aside)

-- The lines on a front: the counts of its plan, the bound where it is below the batches, and those on the other pages.
abbrev pub front_text : FrontAsked → FrontPlan → (aside : List Page) → List ℕ
front_text asked front aside =
    plan_text front.bounded.plan.pages front.bounded.plan.batches ++ below_text front.bounded.plan.batches front.bounded.bound
    ++ others_text asked front aside

-- ASIDE is the page file of the pages that are set aside, where that is asked for, and else nothing.
abbrev pub aside_file : (is_asked : Bool) → List Page → List ℕ
aside_file false pages = []
aside_file true pages = page_file pages

-- WHY is the certificate for one page more, or nothing. A certificate has a text.
abbrev pub certificate_text : Option Certificate → List ℕ
certificate_text None = []
certificate_text (Some c) = written_text c.end c.batches (bound_tree_of c.tree)

abbrev pub HasCertificateText : Option Certificate → Type 0
HasCertificateText None = Unit {0}
HasCertificateText (Some c) = HasText second_ranges c.batches (bound_tree_of c.tree)

-- The front of pages that so many batches carry, and those that are left of them.
pub record IsFrontOfPages (asked : FrontAsked) (pages : List Page) (front : FrontPlan) : Type 0 where
  pub first : front.round ≡ take (length front.round) (firsts pages)
  pub left : front.rest.items ≡ left_of front.round pages
  pub front_for : IsFrontFor asked.search (firsts pages) asked.batches (length front.round)
  pub longest : asked.search.on_limit ≡ Fewest → IsLongestFront asked.search.end (firsts pages) asked.batches (length front.round)
  pub plan_of : IsPlanFor asked.search front.round front.bounded
  pub within : front.bounded.plan.batches ≤ asked.batches
  pub no_more : IsWhyNoMore asked.search (firsts pages) asked.batches (length front.round) front.why

-- The front of a page file, which holds as many pages as are expected, and the pages of it that are set aside.
pub record IsFrontRead (file : List ℕ) (asked : FrontAsked) (front : FrontPlan) (aside : List Page) : Type 0 where
  pub queue : List Page
  pub read : held_pages asked.may_wait file ≡ Ok queue
  pub expected : IsExpected asked.expect (length queue)
  pub front_of : IsFrontOfPages asked (planned_of asked queue) front
  pub aside_is : aside ≡ aside_of asked queue
  -- The page files of the pages that are left, and of these, hold them.
  pub others_of : IsPageFileOf asked.may_wait front.rest.items (page_file front.rest.items)
  pub aside_held : IsPageFileOf asked.may_wait aside (page_file aside)

-- The page file holds as many pages as are expected, and this is so of those that are planned.
abbrev pub IsOfPlanned : FrontAsked → (file : List ℕ) → (List Page → Type 0) → Type 0
IsOfPlanned asked file Holds =
    IsOfHeld asked.may_wait file (λ queue. IsExpected asked.expect (length queue) × Holds (planned_of asked queue))

-- Why no front of a page file is written. The limit is judged before the file, and how many pages it holds before they are planned.
abbrev pub ExplainsNoFront : (file : List ℕ) → FrontAsked → CentreFault → Type 0
ExplainsNoFront file asked fault.BadLimit = ¬ IsNodeLimit asked.search.limit
ExplainsNoFront file asked (fault.Round f) = IsNodeLimit asked.search.limit × ExplainsHeld asked.may_wait file f
ExplainsNoFront file asked (fault.Unexpected found wanted) =
    IsNodeLimit asked.search.limit × HoldsPages asked.may_wait file found × IsUnexpected asked.expect found wanted
ExplainsNoFront file asked (fault.FirstPage needed) =
    IsNodeLimit asked.search.limit
    × IsOfPlanned asked file (λ pages. FirstNeeds asked.search (firsts pages) asked.batches needed)
ExplainsNoFront file asked (fault.SearchLimit least found) =
    MayStop asked.search.on_limit × IsNodeLimit asked.search.limit
    × IsOfPlanned asked file (λ pages. (tree : BoundTree) × StopsAtFront asked.search (firsts pages) asked.batches least found tree)
ExplainsNoFront file asked (fault.File file_fault.OutOfMemory) =
    IsNodeLimit asked.search.limit × IsOk (held_pages asked.may_wait file)
ExplainsNoFront file asked _ = ⊥

-- The pages that a front of so many has: the first of the round.
abbrev pub sent_of : FrontAsked → (count : ℕ) → Result (List Page) RoundFault → Result (List Page) RoundFault
sent_of asked count (Ok queue) = unless_empty (take count (firsts (planned_of asked queue)))
sent_of asked count (Err f) = Err f

abbrev pub sent_pages : WrittenFront → (file : List ℕ) → Result (List Page) RoundFault
sent_pages sent file = sent_of sent.asked sent.count (held_pages sent.asked.may_wait file)
