-- The pages of a transmission with their places (this project's own).
use Rattle.std.specs.Prelude.{ℕ, ◌+◌, List, [], ◌∷◌, slice_index}
use Rattle.pocsag_words.specs.declared.codeword.Kind.{Kind}
use Rattle.pocsag_pages.specs.declared.page.Page.{Page}
use Rattle.pocsag_pages.specs.Reading.{page_length}
use Rattle.pocsag_show.specs.declared.placed.Placed.{Placed}
use Rattle.pocsag_show.specs.Grid.{starts_from}
use Rattle.pocsag_show.specs.Numbers.{numbers_in}

-- Each page with the index at which it begins and its number, which stand at its place in two lists; the first page
-- has this place.
abbrev pub placed : ℕ → (starts numbers : List ℕ) → List Page → List Placed
placed i starts numbers [] = []
placed i starts numbers (p ∷ ps) =
    record { start = slice_index starts i; number = slice_index numbers i; page = p } ∷ placed (i + 1) starts numbers ps

-- The pages of codewords in order of transmission.
abbrev pub placed_in : List Kind → List Page → List Placed
placed_in ks ps = placed 0 (starts_from 0 ks) (numbers_in ps) ps

-- The index behind the last codeword of a page.
abbrev pub index_behind : Placed → ℕ
index_behind pl = pl.start + page_length pl.page
