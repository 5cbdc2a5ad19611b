-- The legend of a drawing: the pages that have codewords in its rows, where they are at most forty (this project's own).
use Rattle.std.specs.Prelude.{◌≡◌, ℕ, ◌+◌, ◌-◌, ◌*◌, ◌/◌, ◌%◌, ◌==◌, ◌&&◌, ◌||◌, min, max, nat_lt, nat_le, Bool, if◌then◌else◌, List, [], ◌∷◌, ◌++◌, codes}
use Rattle.std.specs.List.{count_by, flat_map}
use Rattle.std.specs.Fmt.{decimal}
use Rattle.pocsag_decode.specs.Listing.{kind_field}
use Rattle.pocsag_show.specs.declared.placed.Placed.{Placed}
use Rattle.pocsag_show.specs.Marks.{head, opened, rectangle}
use Rattle.pocsag_show.specs.Placed.{index_behind}

-- Of the rows from one up to before another the first in which a page has codewords, and the row behind the last.
abbrev pub first_row_of : (low : ℕ) → Placed → ℕ
first_row_of low pl = max low (pl.start / 16)

abbrev pub end_row_of : (high : ℕ) → Placed → ℕ
end_row_of high pl = min high ((index_behind pl + 15) / 16)

abbrev pub is_drawn : (low high : ℕ) → Placed → Bool
is_drawn low high pl = nat_lt (first_row_of low pl) (end_row_of high pl)

abbrev pub drawn_in : (low high : ℕ) → List Placed → ℕ
drawn_in low high pls = count_by (is_drawn low high) pls

-- Pages stand in the legend by their numbers, and with one number in order of transmission.
abbrev pub stands_before : Placed → Placed → Bool
stands_before pl other = nat_lt pl.number other.number || (pl.number == other.number && nat_lt pl.start other.start)

-- The place of a page in the legend: how many of the pages that are drawn stand before it.
abbrev pub place_in : (low high : ℕ) → List Placed → Placed → ℕ
place_in low high pls pl = count_by (λ other. is_drawn low high other && stands_before other pl) pls

-- The legend has three entries to a line, where at most forty pages are drawn, and else one line.
abbrev pub legend_lines : (low high : ℕ) → List Placed → ℕ
legend_lines low high pls = if nat_le (drawn_in low high pls) 40 then (drawn_in low high pls + 2) / 3 else 1

-- What hatching and the narrow rectangles mean, under so many rows.
unfoldable pub key : ℕ → List ℕ
key count =
    let y = 86 + 22 * count in
    codes "<path class='h' d='M80 " ++ (decimal (y + 9) ++ (codes "h28'/><text class='n' x='114' y='"
    ++ (decimal (y + 13) ++ (codes "'>idle codeword</text><rect class='s' x='230' y='" ++ (decimal y
    ++ (codes "' width='12' height='18'/><text class='n' x='248' y='" ++ (decimal (y + 13)
    ++ (codes "'>synchronisation codeword</text>" ++ (10 ∷ [])))))))))

-- The entry of a page at a place, the first line of the legend with this upper side: its hue, its label, its address
-- and its kind.
unfoldable pub entry : (top place : ℕ) → Placed → List ℕ
entry top place pl =
    let x = 80 + 150 * (place % 3) in
    let y = top + 22 * (place / 3) in
    opened pl.number ++ (rectangle x y 28 ++ (head x y pl.number
    ++ (codes "<text class='n' x='" ++ (decimal (x + 34) ++ (codes "' y='" ++ (decimal (y + 13)
    ++ (codes "'>" ++ (decimal pl.page.address ++ (codes " " ++ (kind_field pl.page.function pl.page.payload
    ++ (codes "</text></g>" ++ (10 ∷ []))))))))))))

unfoldable pub entry_of : (low high : ℕ) → List Placed → Placed → List ℕ
entry_of low high pls pl =
    if is_drawn low high pl then entry (112 + 22 * (high - low)) (place_in low high pls pl) pl else []

-- What stands in place of the entries of more pages, on a line with this upper side.
unfoldable pub left_out : ℕ → List ℕ
left_out top =
    codes "<text class='n' x='80' y='" ++ (decimal (top + 13) ++ (codes "'>More than 40 pages: show --list tells each.</text>" ++ (10 ∷ [])))

unfoldable pub legend : (low high : ℕ) → List Placed → List ℕ
legend low high pls = if nat_le (drawn_in low high pls) 40 then flat_map (entry_of low high pls) pls else left_out (112 + 22 * (high - low))

-- The first of these pages have the same legend.
pub record HasLegendOf (low high : ℕ) (first pls : List Placed) : Type 0 where
  pub lines : legend_lines low high first ≡ legend_lines low high pls
  pub legend : legend low high first ≡ legend low high pls
