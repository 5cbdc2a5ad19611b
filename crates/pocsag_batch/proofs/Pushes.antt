-- What a push adds to the kinds of a list of codewords.
use Rattle.pocsag_batch.proofs.Prelude.{◌≡◌, ℕ, ◌+◌, ◌<◌, List, [], ◌∷◌, ◌++◌, length, map, take, get_or, ap, ◌∙◌, append_assoc, kind_of, Kind, map-append, take_more}

-- one codeword more of a kind
pub pushed : (ws vs : List ℕ) (w : ℕ) (k : Kind) → vs ≡ ws ++ w ∷ [] → kind_of w ≡ k → map kind_of vs ≡ map kind_of ws ++ k ∷ []
pushed ws vs w k e is = ap (map kind_of) e ∙ (map-append kind_of ws (w ∷ []) ∙ ap (λ j. map kind_of ws ++ j ∷ []) is)

pub pushed_more : (ws vs : List ℕ) (w : ℕ) (k : Kind) (js ks : List Kind) → vs ≡ ws ++ w ∷ [] → kind_of w ≡ k →
    map kind_of ws ≡ js ++ ks → map kind_of vs ≡ js ++ (ks ++ k ∷ [])
pushed_more ws vs w k js ks e is so_far =
    pushed ws vs w k e is ∙ (ap (λ v. v ++ k ∷ []) so_far ∙ append_assoc js ks (k ∷ []))

-- one element more of a mapped list
pub map_taken : {A : Type 0} (f : ℕ → A) (xs : List ℕ) (i : ℕ) → i < length xs
    → map f (take (i + 1) xs) ≡ map f (take i xs) ++ f (get_or xs i 0) ∷ []
map_taken f xs i h = ap (map f) (take_more xs i 0 h) ∙ map-append f (take i xs) (get_or xs i 0 ∷ [])
