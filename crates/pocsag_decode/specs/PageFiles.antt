-- A page file of pages: their listing, but that no numeric message loses an item (the format is this project's own).
use Rattle.std.specs.Prelude.{◌≡◌, Bool, ℕ, ◌+◌, ◌-◌, ◌*◌, ◌<◌, ◌==◌, if◌then◌else◌, List, [], ◌∷◌, ◌++◌, length, replicate, Ok}
use Rattle.std.specs.List.{flat_map}
use Rattle.std.specs.Fmt.{decimal}
use Rattle.csv.specs.Writing.{default_writer, row_text}
use Rattle.pocsag_text.specs.Characters.{space}
use Rattle.pocsag_text.specs.Text.{alpha_payload, numeric_payload}
use Rattle.pocsag_pages.specs.declared.page.Page.{Page}
use Rattle.pocsag_decode.specs.Listing.{header, kind_field, message_field, record_of}

-- How many numeric characters a message codeword holds (a rule of Annex 1).
abbrev pub item_digits : ℕ
item_digits = 5

-- The text with spaces behind it, up to this length.
abbrev pub spaced : ℕ → List ℕ → List ℕ
spaced len text = text ++ replicate (len - length text) space

-- The message of a page of this function and payload: as a listing has it, and a numeric one with spaces up to the first
-- character of its last item.
unfoldable pub whole_message : ℕ → List ℕ → List ℕ
whole_message function [] = []
whole_message function (item ∷ items) =
    if function == 0 then spaced (item_digits * length items + 1) (message_field function (item ∷ items))
    else message_field function (item ∷ items)

-- The record of a page.
abbrev pub page_record : Page → List (List ℕ)
page_record p = decimal p.address ∷ kind_field p.function p.payload ∷ whole_message p.function p.payload ∷ []

-- The page file: the header and then a record for each page.
unfoldable pub page_file : List Page → List ℕ
page_file ps = row_text default_writer header ++ flat_map (λ p. row_text default_writer (page_record p)) ps

-- The record of a page, in a page file or in a listing.
abbrev pub record_in : Bool → Page → List (List ℕ)
record_in for_file p = if for_file then page_record p else record_of p

-- The page file of pages, or their listing.
abbrev pub pages_text : Bool → List Page → List ℕ
pages_text for_file ps = row_text default_writer header ++ flat_map (λ p. row_text default_writer (record_in for_file p)) ps

-- A payload that a text has, with the function: none, that of a numeric text, or that of an alphanumeric text. The pages
-- of page files, and those of an open round, have such payloads.
pub data IsOfText : ℕ → List ℕ → Type 0 where
  silent : {function : ℕ} → function < 4 → IsOfText function []
  digits : {item : ℕ} {items : List ℕ} (text : List ℕ) → numeric_payload text ≡ Ok (item ∷ items) → IsOfText 0 (item ∷ items)
  characters : {item : ℕ} {items : List ℕ} (text : List ℕ) → alpha_payload text ≡ Ok (item ∷ items) → IsOfText 3 (item ∷ items)

abbrev pub IsSpellable : Page → Type 0
IsSpellable p = IsOfText p.function p.payload
