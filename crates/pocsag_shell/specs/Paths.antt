-- Paths as texts, and the files that they name.
use Rattle.std.specs.Prelude.{◌≡◌, ℕ, ◌<◌, List, [], ◌∷◌, length, slice_index_or, Option, Some, None}

-- One of the texts before the place is that at the place.
pub record IsNamedBefore (texts : List (List ℕ)) (later : ℕ) : Type 0 where
  pub earlier : ℕ
  pub order : earlier < later
  pub equal : slice_index_or texts earlier [] ≡ slice_index_or texts later []

-- Two of the texts are equal.
pub record HasEqual (texts : List (List ℕ)) : Type 0 where
  pub later : ℕ
  pub within : later < length texts
  pub before : IsNamedBefore texts later

-- The paths that a plan names: that of a page file, if there is one, and those of its two outputs.
abbrev pub paths_of : {X : Type 0} → Option X → (tx cert : X) → List X
paths_of None tx cert = tx ∷ cert ∷ []
paths_of (Some pages) tx cert = pages ∷ tx ∷ cert ∷ []

-- Both files are known, and they are one.
abbrev pub AreOne : {X : Type 0} → Option X → Option X → Type 0
AreOne (Some one) (Some other) = one ≡ other
AreOne _ _ = ⊥
