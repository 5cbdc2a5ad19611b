-- What a stream says of a fault that comes before the first write, and of one of its writers.
use Rattle.pocsag_plan.proofs.Prelude.{◌≡◌, ℕ, Bool, true, false, IsTrue, List, arith, refl, rules, subst, sym, ◌↔◌, Ok, Err, Some, Result, IsErrOf, IsOk, End, Page, IsRound, verdict, bound_tree_of, IsNodeLimit, stream_fault_of, Plan, PlanFault, OnLimit, Always, Search, ExplainsFront, StopsAtFront, ExplainsPlan, IsBounded, MayStop, ExplainsStream, IsCertificate, IsSearchLimit, IsTransmission, IsUnsent, WritesInTurn}
use Rattle.pocsag_words.specs.declared.refusal.WriteFault.{WriteFault}
use Rattle.pocsag_pages.specs.declared.fault.RoundFault.{RoundFault}
use Rattle.pocsag_plan.specs.BookPlans.{ExplainsBook, ExplainsBookFront, ExplainsBookStream}
use Rattle.pocsag_plan.specs.declared.fault.NoFront.TheVariants as front
use Rattle.pocsag_plan.specs.declared.fault.PlanFault.TheVariants as planning
use Rattle.pocsag_plan.specs.declared.fault.StreamFault.{StreamFault}
use Rattle.pocsag_plan.specs.declared.fault.StreamFault.TheVariants as streaming
use Rattle.pocsag_plan.specs.declared.fault.UnsentFront.TheVariants as unsent
use Rattle.pocsag_plan.specs.declared.refusal.BookFault.{BookFault}
use Rattle.pocsag_plan.specs.declared.refusal.BookFault.TheVariants as book

-- a fault of a book's plan comes before the first write, so it is of neither writer
pub of_no_writer : (e : BookFault) → (¬ IsTransmission (stream_fault_of e)) × (¬ IsCertificate (stream_fault_of e))
of_no_writer book.NoPages = (λ h. h, λ h. h)
of_no_writer (book.Plan f) = (λ h. h, λ h. h)

pub unwritten : {T C : Type 0} (failures : T → ℕ) (certificate_failures : C → ℕ) (tx : T) (cert : C) (e : BookFault) →
    WritesInTurn failures certificate_failures tx tx cert cert (Some (stream_fault_of e))
unwritten failures certificate_failures tx cert book.NoPages = search rules
unwritten failures certificate_failures tx cert (book.Plan f) = search rules

-- and says the same of a stream
pub stream_explained : (on_limit : OnLimit) (end : End) (R : List Page) (limit : ℕ) (e : BookFault) → ExplainsBook on_limit end R limit e →
    ExplainsBookStream on_limit end R limit (stream_fault_of e)
stream_explained on_limit end R limit (book.Plan planning.BadLimit) h = h
stream_explained on_limit end R limit book.NoPages h = (h.0, h.1, refl)
stream_explained on_limit end R limit (book.Plan (planning.SearchLimit stop)) h = h
stream_explained on_limit end R limit (book.Plan planning.OutOfMemory) h = h

pub same_bad_limit : {A B : Type 0} (N : Type 0) (e : BookFault) → (IsErrOf {T = A} (Err e) (book.Plan planning.BadLimit) ↔ (¬ N)) →
    IsErrOf {T = B} (Err (stream_fault_of e)) (streaming.Plan planning.BadLimit) ↔ (¬ N)
same_bad_limit N book.NoPages h = (λ b. absurd (cc), λ no. absurd (cc (h.1 no)))
same_bad_limit N (book.Plan f) h = (λ b. h.0 (cc b), λ no. cc (h.1 no))

-- a limit that is not refused may be asked for
pub limited : (limit : ℕ) → ((IsNodeLimit limit → ⊥) → ⊥) → IsNodeLimit limit
limited limit h = search (rules, arith)

pub answered_limit : {A E : Type 0} (x : A) (e : E) (limit : ℕ) → (IsErrOf (Ok x) e ↔ (¬ IsNodeLimit limit)) → IsNodeLimit limit
answered_limit x e limit h = limited limit (λ no. absurd (cc (h.1 no)))

-- a fault of a writer
by_writer : (P : StreamFault → Type 0) → ((f : WriteFault) → P (streaming.Transmission f)) → ((f : WriteFault) → P (streaming.Certificate f)) →
    (e : StreamFault) → IsUnsent e → P e
by_writer P first second (streaming.Plan f) u = absurd u
by_writer P first second (streaming.Round f) u = absurd u
by_writer P first second (streaming.Transmission f) u = first f
by_writer P first second (streaming.Certificate f) u = second f

pub unsent_explained : (on_limit : OnLimit) (end : End) (R : List Page) (limit : ℕ) (e : StreamFault) → IsUnsent e → IsNodeLimit limit → IsRound R →
    ExplainsBookStream on_limit end R limit e
unsent_explained on_limit end R limit e u within round =
    by_writer (ExplainsBookStream on_limit end R limit) (λ f. (within, round)) (λ f. (within, round)) e u

-- a plan is one for its own end, of the same round
pub its_own : (end : End) (R R' : List Page) (plan : Plan) (bound : ℕ) → R' ≡ R → IsBounded end R plan bound → IsBounded plan.end R' plan bound
its_own end R R' plan bound same is =
    subst (λ (e : End). IsBounded e R' plan bound) (sym is.asked) (subst (λ (v : List Page). IsBounded end v plan bound) (sym same) is)

-- what the test of a limit says
pub limit_taken : (b : Bool) (limit : ℕ) → b ≡ true → (IsTrue b ↔ IsNodeLimit limit) → IsNodeLimit limit
limit_taken true limit is test = test.0 refl
limit_taken false limit is test = absurd (cc)

-- a fault of a plan, answered by a stream of a page file of its round
read_ok : (file : List ℕ) (R : List Page) → verdict file ≡ Ok R → IsOk (verdict file)
read_ok file R read = subst (λ (v : Result (List Page) RoundFault). IsOk v) (sym read) (search rules)

pub plan_explained : (on_limit : OnLimit) (file : List ℕ) (end : End) (R : List Page) (limit : ℕ) (f : PlanFault) → verdict file ≡ Ok R →
    ExplainsPlan on_limit end R limit f → ExplainsStream on_limit file end limit (streaming.Plan f)
plan_explained on_limit file end R limit planning.BadLimit read said = said
plan_explained on_limit file end R limit (planning.SearchLimit stop) read said = (said.0, said.1, record { round = R; read = read; holds = said.2 })
plan_explained on_limit file end R limit planning.OutOfMemory read said = (said, read_ok file R read)

pub plan_answered : (on_limit : OnLimit) (end : End) (R : List Page) (limit : ℕ) (f : PlanFault) → ExplainsPlan on_limit end R limit f →
    on_limit ≡ Always → IsSearchLimit (streaming.Plan f) → ⊥
plan_answered on_limit end R limit planning.BadLimit said always h = h
plan_answered on_limit end R limit (planning.SearchLimit stop) said always h = subst MayStop always said.0
plan_answered on_limit end R limit planning.OutOfMemory said always h = h

pub book_answered : (on_limit : OnLimit) (end : End) (R : List Page) (limit : ℕ) (e : BookFault) → ExplainsBook on_limit end R limit e →
    on_limit ≡ Always → IsSearchLimit (stream_fault_of e) → ⊥
book_answered on_limit end R limit (book.Plan planning.BadLimit) said always h = h
book_answered on_limit end R limit book.NoPages said always h = h
book_answered on_limit end R limit (book.Plan (planning.SearchLimit stop)) said always h = subst MayStop always said.0
book_answered on_limit end R limit (book.Plan planning.OutOfMemory) said always h = h

pub sent_explained : (on_limit : OnLimit) (file : List ℕ) (end : End) (R : List Page) (limit : ℕ) (e : StreamFault) → IsUnsent e →
    IsNodeLimit limit → verdict file ≡ Ok R → ExplainsStream on_limit file end limit e
sent_explained on_limit file end R limit e u within read =
    let ok = read_ok file R read in by_writer (ExplainsStream on_limit file end limit) (λ f. (within, ok)) (λ f. (within, ok)) e u

-- a fault of a front, answered for the pages of a book
module _ (search : Search) (R round : List Page) (batches : ℕ) (same : round ≡ R) (good : IsRound R) where
  pub front_fault : (f : PlanFault) → ExplainsFront search round batches (front.Plan f) →
      ExplainsBookFront search R batches (unsent.Stream (streaming.Plan f))
  front_fault planning.BadLimit said = said
  front_fault (planning.SearchLimit stop) said =
      (said.0, said.1, good, subst (λ (v : List Page). StopsAtFront search v batches stop.least stop.found (bound_tree_of stop.tree)) same said.2)
  front_fault planning.OutOfMemory said = (said, good)

pub unsent_front : (search : Search) (R : List Page) (batches : ℕ) (e : StreamFault) → IsUnsent e → IsNodeLimit search.limit → IsRound R →
    ExplainsBookFront search R batches (unsent.Stream e)
unsent_front search R batches e u within round =
    by_writer (λ e. ExplainsBookFront search R batches (unsent.Stream e)) (λ f. (within, round)) (λ f. (within, round)) e u
