-- What a call that did what it was asked leaves, and what is so where there is a value.
use Rattle.pocsag_open.proofs.Prelude.{◌≡◌, ℕ, List, [], ◌++◌, sym, append-nil, OnOk, Result, Ok, Err, Delivers, PlacementResult, PrintsAndPlaces, TookMore}

pub on_ok : {X E : Type 0} (r : Result X E) (P Q : Type 0) → (P → Q) → OnOk r P → OnOk r Q
on_ok (Ok x) P Q f h = f h
on_ok (Err e) P Q f h = tt

-- this is reported, and nothing is placed
pub told_once : (IsKnown : Type 0) (before after printed : List ℕ) (placed : List PlacementResult) (Q : List ℕ → List PlacementResult → Type 0) → Q printed [] →
    after ≡ before ++ printed → PrintsAndPlaces IsKnown before after placed placed Q
told_once IsKnown before after printed placed Q q e =
    record { printed = printed; placed = []; answers = e; outputs = λ is_known. sym (append-nil placed); holds = q }

-- what is reported is of another kind too, and nothing is placed
pub told_as : {X E : Type 0} (r : Result X E) (IsKnown : Type 0) (before after : List ℕ) (placed : List PlacementResult) (P : List ℕ → Type 0)
    (Q : List ℕ → List PlacementResult → Type 0) → ((printed : List ℕ) → P printed → Q printed []) →
    OnOk r (TookMore before after P) → OnOk r (PrintsAndPlaces IsKnown before after placed placed Q)
told_as r IsKnown before after placed P Q f h =
    on_ok r _ _ (λ (t : TookMore before after P). told_once IsKnown before after t.0 placed Q (f t.0 t.2) t.1) h

-- this is reported, and this became of the places
pub told_this : {X E : Type 0} (r : Result X E) (IsKnown : Type 0) (before after printed : List ℕ) (placed later more : List PlacementResult)
    (Q : List ℕ → List PlacementResult → Type 0) → Q printed more → (IsKnown → later ≡ placed ++ more) → OnOk r (after ≡ before ++ printed) →
    OnOk r (PrintsAndPlaces IsKnown before after placed later Q)
told_this r IsKnown before after printed placed later more Q q on h =
    on_ok r _ _ (λ e. record { printed = printed; placed = more; answers = e; outputs = on; holds = q }) h

-- what was delivered is such a text, or a part of one
pub told_more : {X E : Type 0} (r : Result X E) (before after due : List ℕ) (is : List ℕ → Type 0) → is due → Delivers r before after due →
    OnOk r (TookMore before after is)
told_more r before after due is so h = on_ok r _ _ (λ e. (due, e, so)) h.0
