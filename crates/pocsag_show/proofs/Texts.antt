-- The grid, the listing and the drawing of bytes that were judged, and how they begin.
use Rattle.pocsag_show.proofs.Prelude.{◌≡◌, ℕ, ◌+◌, ◌-◌, ◌*◌, ◌/◌, ◌<◌, List, [], ◌∷◌, ◌++◌, length, map, slice_index, ap, ap₂, sym, subst, ◌∙◌, append_assoc, arith, length-append, flat_map, append-nil, default_writer, row_text, fields_text, is_blank, kind_of, Kind, Page, codewords_in, pages_from, reads_plainly, behind_pages, drawing, drawing_text, frame_lines, heading, opening, page_drawn, row_drawn, text_before, idles_in, letter_at, IsJudged, kinds_read, HasLegendOf, key, legend, legend_lines, letters_with, numbers_in, pages_below, batch_line, batch_lines, batches_in, counts_part, frame_cells, grid_text, head_line, number_column, totals_line, placed_in, place_header, place_listing, place_rows, IsEmitting, end_row, first_row, rows_between, ReadsAs, NumbersPages, number_below, view_text, Judged, Placed, View, Grid, Places, Drawing}
use Rattle.std.proofs.Common.{codes}
use Rattle.pocsag_words.specs.declared.device.Sink.{Ghosts as Writer}
use Rattle.pocsag_show.specs.declared.rows.Rows.{Rows}
use Rattle.pocsag_show.proofs.JudgedBytes.{kinds_are, pages_are}
use Rattle.pocsag_show.proofs.LettersBefore.{length-letters_with, letters_at}
use Rattle.pocsag_show.proofs.Emitted.{begun}
use Rattle.pocsag_show.proofs.Ranges.{flat_map_same}
use Rattle.pocsag_show.proofs.PageNumbers.{addresses_small, numbers_are}

-- letters that are the same in so many batches
module _ (f g : ℕ → ℕ) where
  frame_same : (batch frame : ℕ) → frame < 8 → ((i : ℕ) → i < 16 * batch + 16 → f i ≡ g i)
      → frame_cells f batch frame ≡ frame_cells g batch frame
  unfolding frame_cells
  frame_same batch frame small h =
      ap₂ (λ (x y : ℕ). 32 ∷ x ∷ y ∷ []) (h (16 * batch + 2 * frame) (omega arith)) (h (16 * batch + 2 * frame + 1) (omega arith))

  line_same : (batch : ℕ) → ((i : ℕ) → i < 16 * batch + 16 → f i ≡ g i) → batch_line f batch ≡ batch_line g batch
  unfolding batch_line
  line_same batch h =
      ap (λ (l : List ℕ). number_column (batch + 1) ++ (l ++ (10 ∷ [])))
      (flat_map_same (frame_cells f batch) (frame_cells g batch) 0 8 (λ frame from small. frame_same batch frame (omega arith) h))

  pub lines_same : (low high : ℕ) → ((i : ℕ) → i < 16 * high → f i ≡ g i) → batch_lines f low high ≡ batch_lines g low high
  unfolding batch_lines
  lines_same low high h =
      flat_map_same (batch_line f) (batch_line g) low (high - low) (λ batch from small. line_same batch (λ i below. h i (omega arith)))

module _ (X : List ℕ) (judged : Judged) (j : IsJudged X judged) where
  abbrev kinds : List Kind
  kinds = kinds_read j.reading

  batches_are : batches_in kinds ≡ judged.counts.batches
  batches_are = let b = j.batches in omega arith

  -- the letters of the codewords
  module _ (letters : List ℕ)
      (is : letters ≡ letters_with (number_below judged.numbers) 0 0 (map kind_of (codewords_in judged.bytes.now))) where
    letters_read : letters ≡ letters_with (number_below judged.numbers) 0 0 kinds
    letters_read =
        is
        ∙ ap (letters_with (number_below judged.numbers) 0 0)
        (ap (λ (Y : List ℕ). map kind_of (codewords_in Y)) j.bytes ∙ kinds_are X j.pages j.reading)

    count : length letters ≡ length kinds
    count = ap length letters_read ∙ length-letters_with (number_below judged.numbers) (numbers_in j.pages) kinds 0 0

    each : (i : ℕ) → i < length kinds → slice_index letters i ≡ letter_at (numbers_in j.pages) kinds i
    each i within =
        let number_of = number_below judged.numbers in
        let plain = reads_plainly j.reading.reads in
        ap (λ (l : List ℕ). slice_index l i) letters_read
        ∙ letters_at number_of (numbers_in j.pages) kinds
        (numbers_are number_of j.pages (pages_from 0 kinds) j.numbers (addresses_small j.reading.codewords 0)
        ∙ ap (map (λ (p : Page). pages_below j.pages p.address)) (pages_are X j.pages j.reading))
        plain.no_orphan i within

    grid_is : (rows : Rows) → grid_text rows kinds j.pages
        ≡ totals_line judged.counts.batches judged.counts.codewords judged.counts.idles
        ++ (head_line ++ batch_lines (slice_index letters) (first_row rows) (end_row rows (length letters / 16)))
    unfolding grid_text
    grid_is rows =
        let n = count in
        let same : batches_in kinds ≡ length letters / 16 = ap (λ (m : ℕ). m / 16) (sym n) in
        ap₂ (λ (x y : List ℕ). x ++ (head_line ++ y))
        (ap₂ (λ (b i : ℕ). totals_line b (length kinds - idles_in kinds) i) batches_are (sym j.idles)
        ∙ ap (λ (w : ℕ). totals_line judged.counts.batches w judged.counts.idles) (sym j.codewords))
        (ap (λ (b : ℕ). batch_lines (letter_at (numbers_in j.pages) kinds) (first_row rows) (end_row rows b)) same
        ∙ sym (lines_same (slice_index letters) (letter_at (numbers_in j.pages) kinds) (first_row rows) (end_row rows (length letters / 16))
        (λ i small. each i (omega arith))))

    pub grid_begun : {S : Type 0} (Out : Writer S) (now : S) (rows : Rows) (first text : List ℕ) (low high : ℕ)
        → first ≡ totals_line judged.counts.batches judged.counts.codewords judged.counts.idles → text ≡ first ++ head_line
        → low ≡ first_row rows → high ≡ end_row rows (length letters / 16)
        → IsEmitting Out now now (grid_text rows kinds j.pages) text (batch_lines (slice_index letters) low high ++ [])
    grid_begun Out now rows first text low high f t l h =
        begun Out now now (grid_text rows kinds j.pages) text (batch_lines (slice_index letters) low high ++ [])
        (grid_is rows
        ∙ (sym (append_assoc (totals_line judged.counts.batches judged.counts.codewords judged.counts.idles) head_line _)
        ∙ ap₂ (λ (x y : List ℕ). x ++ y) (ap (λ (x : List ℕ). x ++ head_line) (sym f) ∙ sym t)
        (ap₂ (λ (x y : ℕ). batch_lines (slice_index letters) x y) (sym l) (sym h)
        ∙ sym (append-nil (batch_lines (slice_index letters) low high)))))
        (omega (arith, ap length t, length-append first head_line))

-- no text is empty
totals_some : (b c i : ℕ) → 0 < length (totals_line b c i)
unfolding totals_line counts_part
totals_some b c i = omega arith

header_some : 0 < length (row_text default_writer place_header)
unfolding is_blank fields_text
header_some = omega arith

heading_some : (low high batches codewords idles lines : ℕ) → 0 < length (heading low high batches codewords idles lines)
unfolding heading text_before opening
heading_some low high batches codewords idles lines = omega arith

first_some : (xs ys : List ℕ) → 0 < length xs → 0 < length (xs ++ ys)
first_some xs ys some = omega (arith, length-append xs ys)

pub view_some : (view : View) (ks : List Kind) (ps : List Page) → 0 < length (view_text view ks ps)
unfolding grid_text place_listing drawing drawing_text
view_some (Grid rows) ks ps = first_some _ _ (totals_some (batches_in ks) (length ks - idles_in ks) (idles_in ks))
view_some Places ks ps = first_some (row_text default_writer place_header) (place_rows (placed_in ks ps)) header_some
view_some (Drawing rows) ks ps =
    first_some _ _
    (heading_some (first_row rows) (end_row rows (batches_in ks)) (batches_in ks) (length ks - idles_in ks) (idles_in ks)
    (legend_lines (first_row rows) (end_row rows (batches_in ks)) (placed_in ks ps)))

-- the listing
pub listing_begun : {S : Type 0} (Out : Writer S) (now : S) (ks : List Kind) (ps : List Page) (text : List ℕ) (left : List Placed)
    → text ≡ row_text default_writer place_header → left ≡ placed_in ks ps
    → IsEmitting Out now now (place_listing ks ps) text (place_rows left ++ [])
unfolding place_listing
listing_begun Out now ks ps text left t are =
    begun Out now now (place_listing ks ps) text (place_rows left ++ [])
    (ap₂ (λ (x y : List ℕ). x ++ y) (sym t) (ap place_rows (sym are) ∙ sym (append-nil (place_rows left))))
    (omega (arith, ap length t, header_some))

-- the pages that a reader hands out
pub placed_again : (X : List ℕ) (judged : Judged) (j : IsJudged X judged) (pls : List Placed)
    → ((ps : List Page) (reading : ReadsAs judged.bytes.now ps) → NumbersPages ps judged.numbers → pls ≡ placed_in (kinds_read reading) ps)
    → pls ≡ placed_in (kinds_read j.reading) j.pages
placed_again X judged j pls left =
    subst (λ (Y : List ℕ). (reading : ReadsAs Y j.pages) → pls ≡ placed_in (kinds_read reading) j.pages) j.bytes
    (λ reading. left j.pages reading j.numbers) j.reading

-- the drawing, whose legend has the first of these pages
pub drawing_begun : {S : Type 0} (Out : Writer S) (now : S) (X : List ℕ) (judged : Judged) (j : IsJudged X judged) (rows : Rows)
    (low high : ℕ) (none text : List ℕ) (first kept pls again : List Placed) → low ≡ first_row rows → high ≡ end_row rows judged.counts.batches
    → ((ps : List Page) (reading : ReadsAs judged.bytes.now ps) → NumbersPages ps judged.numbers → pls ≡ placed_in (kinds_read reading) ps)
    → ((ps : List Page) (reading : ReadsAs judged.bytes.now ps) → NumbersPages ps judged.numbers → again ≡ placed_in (kinds_read reading) ps)
    → first ≡ kept → HasLegendOf low high kept pls → none ≡ []
    → text ≡ none ++ heading low high judged.counts.batches judged.counts.codewords judged.counts.idles (legend_lines low high first)
    → IsEmitting Out now now (drawing rows (kinds_read j.reading) j.pages) text
    (flat_map (row_drawn low) (rows_between low high) ++ (flat_map (page_drawn low high) again ++ (behind_pages low high first ++ [])))
unfolding drawing drawing_text behind_pages
drawing_begun Out now X judged j rows low high none text first kept pls again l h left_first left all has empty put =
    let ks = kinds_read j.reading in
    let b = judged.counts.batches in
    let w = judged.counts.codewords in
    let i = judged.counts.idles in
    let placed = placed_in ks j.pages in
    let same : again ≡ placed = placed_again X judged j again left in
    let equal : again ≡ pls = same ∙ sym (placed_again X judged j pls left_first) in
    let lines : legend_lines low high again ≡ legend_lines low high first =
    ap (legend_lines low high) equal ∙ (sym has.lines ∙ ap (legend_lines low high) (sym all)) in
    let legends : legend low high again ≡ legend low high first =
    ap (legend low high) equal ∙ (sym has.legend ∙ ap (legend low high) (sym all)) in
    let drawn_rows = flat_map (row_drawn low) (rows_between low high) in
    let drawn_pages = flat_map (page_drawn low high) again in
    let head = heading low high b w i (legend_lines low high first) in
    let t : text ≡ head = put ∙ ap (λ (l : List ℕ). l ++ head) empty in
    let due : drawing rows ks j.pages ≡ drawing_text low high b w i again =
    ap (λ (n : ℕ). drawing_text (first_row rows) (end_row rows n) n (length ks - idles_in ks) (idles_in ks) placed) (batches_are X judged j)
    ∙ (ap₂ (λ (x y : ℕ). drawing_text (first_row rows) (end_row rows b) b x y placed) (sym j.codewords) (sym j.idles)
    ∙ (ap₂ (λ (x y : ℕ). drawing_text x y b w i placed) (sym l) (sym h) ∙ ap (drawing_text low high b w i) (sym same))) in
    begun Out now now (drawing rows ks j.pages) text (drawn_rows ++ (drawn_pages ++ (behind_pages low high first ++ [])))
    (due
    ∙ ap₂ (λ (x y : List ℕ). x ++ (drawn_rows ++ (drawn_pages ++ y))) (ap (heading low high b w i) lines ∙ sym t)
    (ap (λ (x : List ℕ). frame_lines (high - low) ++ (key (high - low) ++ (x ++ (codes "</svg>" ++ (10 ∷ []))))) legends
    ∙ sym (append-nil (behind_pages low high first))))
    (omega (arith, ap length t, heading_some low high b w i (legend_lines low high first)))
