-- What a listing spells is read back.
use Rattle.pocsag_decode.proofs.Prelude.{◌≡◌, ℕ, ◌≤◌, false, List, [], ◌∷◌, ◌∙◌, Ok, decimal, space, alpha_payload, numeric_payload, trim_end, alpha_text-back, numeric_text-back, is_reserved, last_address, page_of_fields, characters_spelled, digits_spelled, tone_spelled, kind_field, message_field}
use Rattle.pocsag_decode.specs.ListedFields.{IsSpelled, silent, digits, characters}

digits_listed : (item : ℕ) (items text : List ℕ) → numeric_payload text ≡ Ok (item ∷ items) → message_field 0 (item ∷ items) ≡ trim_end space text
unfolding message_field
digits_listed item items text e = numeric_text-back text (item ∷ items) e

pub characters_listed : (item : ℕ) (items text : List ℕ) → alpha_payload text ≡ Ok (item ∷ items) → message_field 3 (item ∷ items) ≡ text
unfolding message_field
characters_listed item items text e = alpha_text-back text (item ∷ items) e

pub fields_back : (a f : ℕ) (items : List ℕ) → a ≤ last_address → is_reserved a ≡ false → IsSpelled f items
    → page_of_fields (decimal a) (kind_field f items) (message_field f items) ≡ Ok (record { address = a; function = f; payload = items })
unfolding kind_field message_field
fields_back a f [] low free (silent h) = tone_spelled a low free f h
fields_back a f (item ∷ items) low free (digits text e t) =
    rw (digits_listed item items text e ∙ t) (digits_spelled a low free text (item ∷ items) e)
fields_back a f (item ∷ items) low free (characters text e) =
    rw (characters_listed item items text e) (characters_spelled a low free text (item ∷ items) e)
