-- Which pages a listing spells, so that it is a page file of them.
use Rattle.std.specs.Prelude.{◌≡◌, ℕ, ◌<◌, List, [], ◌∷◌, Ok}
use Rattle.pocsag_text.specs.Characters.{space}
use Rattle.pocsag_text.specs.Text.{alpha_payload, numeric_payload, trim_end}

-- A payload that a message field spells, with the function: none, that of a numeric text that ends in no space, or that of
-- an alphanumeric text.
pub data IsSpelled : ℕ → List ℕ → Type 0 where
  silent : {function : ℕ} → function < 4 → IsSpelled function []
  digits : {item : ℕ} {items : List ℕ} (text : List ℕ) → numeric_payload text ≡ Ok (item ∷ items) → trim_end space text ≡ text
      → IsSpelled 0 (item ∷ items)
  characters : {item : ℕ} {items : List ℕ} (text : List ℕ) → alpha_payload text ≡ Ok (item ∷ items) → IsSpelled 3 (item ∷ items)
