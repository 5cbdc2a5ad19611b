-- Where each page stands in a transmission, as csv writes records (this project's own).
use Rattle.std.specs.Prelude.{ℕ, ◌+◌, ◌/◌, ◌%◌, List, [], ◌∷◌, ◌++◌, codes}
use Rattle.std.specs.List.{flat_map}
use Rattle.std.specs.Fmt.{decimal}
use Rattle.csv.specs.Writing.{row_text, default_writer}
use Rattle.pocsag_words.specs.declared.codeword.Kind.{Kind}
use Rattle.pocsag_pages.specs.declared.page.Page.{Page}
use Rattle.pocsag_pages.specs.Reading.{frame_at, page_length}
use Rattle.pocsag_decode.specs.Listing.{record_of}
use Rattle.pocsag_show.specs.declared.placed.Placed.{Placed}
use Rattle.pocsag_show.specs.Placed.{placed_in}

-- The record of a page: its batch, counted from 1, its frame and its slot in the batch, counted from 0, how many
-- codewords it has, and the fields of the decoder's listing.
abbrev pub place_record : Placed → List (List ℕ)
place_record pl =
    decimal (pl.start / 16 + 1) ∷ decimal (frame_at pl.start) ∷ decimal (pl.start % 16) ∷ decimal (page_length pl.page) ∷ record_of pl.page

abbrev pub place_header : List (List ℕ)
place_header = codes "batch" ∷ codes "frame" ∷ codes "slot" ∷ codes "codewords" ∷ codes "address" ∷ codes "kind" ∷ codes "message" ∷ []

-- A record for each page.
abbrev pub place_rows : List Placed → List ℕ
place_rows pls = flat_map (λ pl. row_text default_writer (place_record pl)) pls

-- The listing: the header, and the pages of the codewords in order of transmission.
unfoldable pub place_listing : List Kind → List Page → List ℕ
place_listing ks ps = row_text default_writer place_header ++ place_rows (placed_in ks ps)
