-- Pages that are handed out with their places.
use Rattle.std.specs.Prelude.{ℕ, List, [], ◌∷◌, drop, slice_index}
use Rattle.pocsag_pages.specs.declared.page.Page.{Page}
use Rattle.pocsag_decode.specs.PageReaders.{pages_left}
use Rattle.pocsag_show.specs.declared.placed.Placed.{Placed}
use Rattle.pocsag_show.specs.declared.placement.PlacedReader.{PlacedReader}
use Rattle.pocsag_show.specs.Kinds.{starts_ahead}
use Rattle.pocsag_show.specs.PageNumbers.{number_below}

-- Pages that begin at these indices, and whose numbers are those of their addresses.
abbrev pub placed_from : (number_of : ℕ → ℕ) → (starts : List ℕ) → List Page → List Placed
placed_from number_of starts [] = []
placed_from number_of starts (p ∷ ps) =
    record { start = slice_index starts 0; number = number_of p.address; page = p } ∷ placed_from number_of (drop 1 starts) ps

-- The pages that are left.
abbrev pub placed_left : PlacedReader → List Placed
placed_left r = placed_from (number_below r.numbers.now) (starts_ahead r.kinds) (pages_left r.pages)
