-- The drawing of a transmission, as SVG 1.1 (this project's own). A row is a batch. Behind everything a row is hatched,
-- as idle codewords are; on it lie the pages, each in its hue, the address codeword darker and with the page's label.
-- A codeword is a cell 28 wide and 18 high, the first of a row 80 from the left; the rows begin 80 from above and are 22
-- apart.
use Rattle.std.specs.Prelude.{ℕ, ◌+◌, ◌-◌, ◌*◌, ◌%◌, min, max, nat_le, if◌then◌else◌, List, [], ◌∷◌, ◌++◌, length, codes}
use Rattle.std.specs.List.{flat_map, range_with_len}
use Rattle.std.specs.Fmt.{decimal}
use Rattle.pocsag_words.specs.declared.codeword.Kind.{Kind}
use Rattle.pocsag_pages.specs.declared.page.Page.{Page}
use Rattle.pocsag_show.specs.declared.placed.Placed.{Placed}
use Rattle.pocsag_show.specs.declared.rows.Rows.{Rows}
use Rattle.pocsag_show.specs.Escapes.{told}
use Rattle.pocsag_show.specs.Grid.{idles_in}
use Rattle.pocsag_show.specs.Legend.{end_row_of, first_row_of, is_drawn, key, legend, legend_lines}
use Rattle.pocsag_show.specs.Marks.{head, opened, rectangle, tail}
use Rattle.pocsag_show.specs.Picture.{batches_in, counts_part, totals_line}
use Rattle.pocsag_show.specs.Placed.{index_behind, placed_in}
use Rattle.pocsag_show.specs.Rows.{end_row, first_row, rows_between}
use Rattle.pocsag_show.specs.Style.{style}

-- The upper side of a row, where this row is drawn first.
abbrev pub row_top : (low row : ℕ) → ℕ
row_top low row = 80 + 22 * (row - low)

-- How high a drawing of so many rows and of so many lines of the legend is.
abbrev pub height : (count lines : ℕ) → ℕ
height count lines = 116 + 22 * (count + lines)

-- What is drawn of a page in a row in which it has codewords: a rectangle over them, and its mark: where it begins in
-- this row its address codeword, and else its label in small.
unfoldable pub piece : (low : ℕ) → Placed → (row : ℕ) → List ℕ
piece low pl row =
    let from = max pl.start (16 * row) in
    let behind = min (index_behind pl) (16 * row + 16) in
    let x = 80 + 28 * (from % 16) in
    let y = row_top low row in
    rectangle x y (28 * (behind - from)) ++ (if nat_le (16 * row) pl.start then head x y pl.number else tail x y pl.number)

-- A page, where it has codewords in the rows that are drawn: a group of its hue, which reports what the page is, and its
-- pieces.
unfoldable pub page_drawn : (low high : ℕ) → Placed → List ℕ
page_drawn low high pl =
    if is_drawn low high pl then
    opened pl.number ++ (codes "<title>" ++ (told pl ++ (codes "</title>"
    ++ (flat_map (piece low pl) (rows_between (first_row_of low pl) (end_row_of high pl)) ++ (codes "</g>" ++ (10 ∷ []))))))
    else []

-- A row behind its pages: the number of its batch, counted from 1; the synchronisation codeword; and the hatching of its
-- sixteen codewords, as idle ones are: a line of short dashes, as wide as the cells are high.
unfoldable pub row_drawn : (low row : ℕ) → List ℕ
row_drawn low row =
    let y = row_top low row in
    codes "<text class='e' x='50' y='" ++ (decimal (y + 13) ++ (codes "'>" ++ (decimal (row + 1)
    ++ (codes "</text><rect class='s' x='60' y='" ++ (decimal y
    ++ (codes "' width='12' height='18'/><path class='h' d='M80 " ++ (decimal (y + 9) ++ (codes "h448'/>"
    ++ (10 ∷ [])))))))))

-- A number over the rows.
unfoldable pub axis_number : (x y number : ℕ) → List ℕ
axis_number x y number =
    codes "<text class='m' x='" ++ (decimal x ++ (codes "' y='" ++ (decimal y ++ (codes "'>" ++ (decimal number ++ codes "</text>")))))

-- The words frame, slot and batch, and the numbers of the eight frames and, under them, of the sixteen slots.
unfoldable pub axes : List ℕ
axes =
    codes "<text class='e' x='74' y='60'>frame</text><text class='e' x='74' y='74'>slot</text><text class='e' x='50' y='74'>batch</text>"
    ++ (flat_map (λ frame. axis_number (108 + 56 * frame) 60 frame) (range_with_len 0 8)
    ++ (flat_map (λ slot. axis_number (94 + 28 * slot) 74 slot) (range_with_len 0 16) ++ (10 ∷ [])))

-- A line at each side of a frame, over so many rows.
unfoldable pub frame_line : (bottom frame : ℕ) → List ℕ
frame_line bottom frame = codes "M" ++ (decimal (80 + 56 * frame) ++ (codes " 78V" ++ decimal bottom))

unfoldable pub frame_lines : ℕ → List ℕ
frame_lines count =
    codes "<path class='f' d='" ++ (flat_map (frame_line (80 + 22 * count)) (range_with_len 0 9) ++ (codes "'/>" ++ (10 ∷ [])))

unfoldable pub opening : (tall : ℕ) → List ℕ
opening tall =
    codes "<svg xmlns='http://www.w3.org/2000/svg' version='1.1' class='pocsag' role='img' width='540' height='"
    ++ (decimal tall ++ (codes "' viewBox='0 0 540 " ++ (decimal tall ++ (codes "'>" ++ (10 ∷ [])))))

-- What readers of screens report: which batches are drawn, and the line of totals with what the drawing is.
unfoldable pub title : (low high batches : ℕ) → List ℕ
title low high batches =
    codes "<title>Batches " ++ (decimal (low + 1) ++ (codes " to " ++ (decimal high ++ (codes " of "
    ++ (decimal batches ++ (codes "</title>" ++ (10 ∷ [])))))))

unfoldable pub description : (batches codewords idles : ℕ) → List ℕ
description batches codewords idles =
    codes "<desc>" ++ (totals_line batches codewords idles
    ++ (codes "A row is a batch: its number, its synchronisation codeword, and sixteen codewords in eight frames. "
    ++ (codes "A page has one hue and one letter, its address codeword is darker, and idle codewords are hatched.</desc>"
    ++ (10 ∷ []))))

-- The ground with the same heading on it.
unfoldable pub headed : (tall low high batches : ℕ) → List ℕ
headed tall low high batches =
    codes "<rect class='b' width='540' height='" ++ (decimal tall ++ (codes "'/>" ++ (10 ∷ codes "<text class='t' x='12' y='22'>Batches "
    ++ (decimal (low + 1) ++ (codes " to " ++ (decimal high ++ (codes " of " ++ (decimal batches ++ codes "</text>"))))))))

-- What stands before the rows: what is reported, and what is seen, with the counts.
unfoldable pub text_before : (low high batches codewords idles lines : ℕ) → List ℕ
text_before low high batches codewords idles lines =
    opening (height (high - low) lines) ++ (title low high batches ++ description batches codewords idles)

unfoldable pub seen_before : (low high batches codewords idles lines : ℕ) → List ℕ
seen_before low high batches codewords idles lines =
    style ++ (headed (height (high - low) lines) low high batches
    ++ (codes "<text x='12' y='40'>" ++ (counts_part batches codewords idles ++ (codes "</text>" ++ (10 ∷ axes)))))

unfoldable pub heading : (low high batches codewords idles lines : ℕ) → List ℕ
heading low high batches codewords idles lines =
    text_before low high batches codewords idles lines ++ seen_before low high batches codewords idles lines

-- What stands behind the pages.
unfoldable pub behind_pages : (low high : ℕ) → List Placed → List ℕ
behind_pages low high pls =
    frame_lines (high - low) ++ (key (high - low) ++ (legend low high pls ++ (codes "</svg>" ++ (10 ∷ []))))

-- The rows and the pages that lie on them stand between.
unfoldable pub drawing_text : (low high batches codewords idles : ℕ) → List Placed → List ℕ
drawing_text low high batches codewords idles pls =
    heading low high batches codewords idles (legend_lines low high pls)
    ++ (flat_map (row_drawn low) (rows_between low high) ++ (flat_map (page_drawn low high) pls ++ behind_pages low high pls))

-- The drawing of codewords that fill batches and of the pages that they read as: of the rows that are wanted.
unfoldable pub drawing : Rows → List Kind → List Page → List ℕ
drawing rows ks ps =
    drawing_text (first_row rows) (end_row rows (batches_in ks)) (batches_in ks) (length ks - idles_in ks) (idles_in ks) (placed_in ks ps)
