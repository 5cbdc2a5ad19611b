-- The listing of pages, as csv writes records (the format is this project's own).
use Rattle.std.specs.Prelude.{ℕ, ◌+◌, ◌/◌, ◌%◌, ◌==◌, nat_lt, if◌then◌else◌, List, [], ◌∷◌, ◌++◌, map, codes}
use Rattle.std.specs.List.{flat_map}
use Rattle.std.specs.Fmt.{decimal}
use Rattle.csv.specs.Writing.{row_text, default_writer}
use Rattle.pocsag_text.specs.Text.{numeric_text, alpha_text}
use Rattle.pocsag_pages.specs.declared.page.Page.{Page}

-- A digit from 0 to 9 or from A to F.
abbrev pub hex_digit : ℕ → ℕ
hex_digit d = if nat_lt d 10 then 48 + d else 55 + d

-- Five hexadecimal digits, the highest first.
abbrev pub hex_digits : ℕ → List ℕ
hex_digits item =
    map hex_digit (item / 65536 % 16 ∷ item / 4096 % 16 ∷ item / 256 % 16 ∷ item / 16 % 16 ∷ item % 16 ∷ [])

-- The kind of a page of this function and payload.
unfoldable pub kind_field : ℕ → List ℕ → List ℕ
kind_field function [] = codes "tone" ++ (48 + function) ∷ []
kind_field function (item ∷ items) =
    if function == 0 then codes "numeric" else if function == 3 then codes "alpha" else codes "data" ++ (48 + function) ∷ []

-- Its message.
unfoldable pub message_field : ℕ → List ℕ → List ℕ
message_field function [] = []
message_field function (item ∷ items) =
    if function == 0 then numeric_text (item ∷ items)
    else if function == 3 then alpha_text (item ∷ items)
    else flat_map hex_digits (item ∷ items)

-- The record of a page.
abbrev pub record_of : Page → List (List ℕ)
record_of p = decimal p.address ∷ kind_field p.function p.payload ∷ message_field p.function p.payload ∷ []

abbrev pub header : List (List ℕ)
header = codes "address" ∷ codes "kind" ∷ codes "message" ∷ []

-- The listing: the header and then a record for each page, fields quoted where csv needs it, each
-- record ended by a line feed.
unfoldable pub listing : List Page → List ℕ
listing ps = row_text default_writer header ++ flat_map (λ p. row_text default_writer (record_of p)) ps
