-- The classes that limits narrow, class by class.
use Rattle.pocsag_findings.proofs.Prelude.{◌≡◌, ℕ, ◌+◌, ◌++◌, ◌∷◌, [], List, Bool, refl, cond, Classes, Limits, joined_below, joined_more, early_limits, is_narrower, narrowed_by}
use Rattle.pocsag_findings.specs.declared.finding.Narrowed.{Narrowed}

pub narrowed_next : (k : Classes) (l : Limits) (c : ℕ) (early : Narrowed) (is : Bool) (found next : List Narrowed) →
    early ≡ early_limits k l c → is ≡ is_narrower early → found ≡ joined_below c (narrowed_by k l) →
    next ≡ found ++ cond is (early ∷ []) [] → next ≡ joined_below (c + 1) (narrowed_by k l)
narrowed_next k l c early is found next stated judged so_far added = rw (added, so_far, joined_more, judged, stated) refl
