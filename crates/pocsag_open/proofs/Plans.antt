-- What the outputs of a plan hold, and why it is refused.
use Rattle.pocsag_open.proofs.Prelude.{◌≡◌, inr, ℕ, List, [], ◌++◌, append-nil, refl, sym, ap, ◌∙◌, subst, arith, None, Some, End, Page, OnLimit, ArePlacesOfRefused, ExplainsPlanUndone, HasFailedOutput, IsUnplaced, PlacementResult, plan_search, undone_of}
use Rattle.pocsag_tree.specs.Views.{bound_tree_of}
use Rattle.pocsag_plan.specs.declared.fault.PlanFault.TheVariants as planning
use Rattle.pocsag_plan.specs.declared.fault.StreamFault.{StreamFault}
use Rattle.pocsag_plan.specs.declared.fault.StreamFault.TheVariants as streaming
use Rattle.pocsag_plan.specs.declared.fault.UnsentFront.TheVariants as front
use Rattle.pocsag_plan.specs.BookPlans.{ExplainsBookFront, ExplainsBookStream}
use Rattle.pocsag_plan.specs.Searches.{default_limit}
use Rattle.pocsag_plan.specs.Streams.{WritesAllOf, WritesInTurn}

-- outputs that were empty hold what was written
pub all_held : (Holds : List ℕ → List ℕ → Type 0) (tx tx_after cert cert_after : List ℕ) → tx ≡ [] → cert ≡ [] →
    WritesAllOf Holds tx tx_after cert cert_after → Holds tx_after cert_after
all_held Holds tx tx_after cert cert_after none no_text w =
    let sent : tx_after ≡ w.sent = w.transmission ∙ ap (λ (l : List ℕ). l ++ w.sent) none in
    let text : cert_after ≡ w.certificate = w.text ∙ ap (λ (l : List ℕ). l ++ w.certificate) no_text in
    subst (λ (l : List ℕ). Holds l cert_after) (sym sent) (subst (λ (l : List ℕ). Holds w.sent l) (sym text) w.headline)

-- the fault of a stream of the pages explains why their plan is refused
pub explains : (on_limit : OnLimit) (end : End) (pages : List Page) (f : StreamFault) → ExplainsBookStream on_limit end pages default_limit f →
    ExplainsPlanUndone on_limit end None pages (undone_of f)
explains on_limit end pages (streaming.Plan planning.BadLimit) h = absurd (h (record { some = omega arith; few = omega arith }))
explains on_limit end pages (streaming.Plan (planning.SearchLimit stop)) h = (h.0, h.2, (bound_tree_of stop.tree, h.3))
explains on_limit end pages (streaming.Plan planning.OutOfMemory) h = h.1
explains on_limit end pages (streaming.Round f) h = h.1
explains on_limit end pages f h = tt

-- and so does that of a stream of a front
pub explains_front : (on_limit : OnLimit) (end : End) (most : ℕ) (pages : List Page) (f : StreamFault) →
    ExplainsBookFront (plan_search on_limit end) pages most (front.Stream f) → ExplainsPlanUndone on_limit end (Some most) pages (undone_of f)
explains_front on_limit end most pages (streaming.Plan (planning.SearchLimit stop)) h = (h.0, h.2, (bound_tree_of stop.tree, h.3))
explains_front on_limit end most pages (streaming.Plan planning.BadLimit) h = explains on_limit end pages (streaming.Plan planning.BadLimit) h
explains_front on_limit end most pages (streaming.Plan planning.OutOfMemory) h = h.1
explains_front on_limit end most pages (streaming.Round f) h = h.1
explains_front on_limit end most pages f h = tt

-- a store whose outputs failed, or one of whose outputs could not be written, did not place them
pub unsent : {Output : Type 0} (failures : Output → ℕ) (IsKnown : Type 0) (tx_name cert_name : List ℕ) (before after : List PlacementResult)
    (tx tx_after cert cert_after : Output) (f : StreamFault) → WritesInTurn failures failures tx tx_after cert cert_after (Some f) →
    (IsKnown → after ≡ before) → IsUnplaced IsKnown (HasFailedOutput failures) tx_name cert_name before after (undone_of f)
unsent failures IsKnown tx_name cert_name before after tx tx_after cert cert_after f w same =
    record { placed = []; refused = nothing_placed f w; outputs = λ known. same known ∙ sym (append-nil before) }
  where
    nothing_placed : (e : StreamFault) → WritesInTurn failures failures tx tx_after cert cert_after (Some e) →
        ArePlacesOfRefused tx_name cert_name (HasFailedOutput failures) (undone_of e) []
    nothing_placed (streaming.Plan planning.BadLimit) w = refl
    nothing_placed (streaming.Plan (planning.SearchLimit stop)) w = refl
    nothing_placed (streaming.Plan planning.OutOfMemory) w = refl
    nothing_placed (streaming.Round e) w = refl
    nothing_placed (streaming.Transmission e) w = inr (refl, (tx, tx_after, w.write_failed tt), refl)
    nothing_placed (streaming.Certificate e) w = inr (refl, (cert, cert_after, w.certificate_failed tt), refl)
