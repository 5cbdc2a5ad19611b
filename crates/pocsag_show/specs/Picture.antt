-- The text that shows a transmission: a line of totals, a line with the numbers of the frames, and a
-- line for each batch that is wanted (this project's own).
use Rattle.std.specs.Prelude.{ℕ, ◌+◌, ◌-◌, ◌*◌, ◌/◌, List, [], ◌∷◌, ◌++◌, length, replicate, codes}
use Rattle.std.specs.List.{flat_map, range_with_len}
use Rattle.std.specs.Fmt.{decimal}
use Rattle.pocsag_words.specs.Frame.{airtime, transmission_bits}
use Rattle.pocsag_words.specs.declared.codeword.Kind.{Kind}
use Rattle.pocsag_pages.specs.declared.page.Page.{Page}
use Rattle.pocsag_show.specs.declared.rows.Rows.{Rows}
use Rattle.pocsag_show.specs.Grid.{idles_in, letter_at}
use Rattle.pocsag_show.specs.Numbers.{numbers_in}
use Rattle.pocsag_show.specs.Rows.{end_row, first_row, rows_between}

-- How many batches the codewords fill, sixteen to a batch.
abbrev pub batches_in : List Kind → ℕ
batches_in ks = length ks / 16

-- How many batches, codewords of pages and idle codewords there are, and the share of the idle ones in per cent, to the
-- nearest whole one, a half upwards.
unfoldable pub counts_part : (batches codewords idles : ℕ) → List ℕ
counts_part batches codewords idles =
    codes "batches " ++ (decimal batches ++ (codes ", codewords " ++ (decimal codewords ++ (codes ", idles "
    ++ (decimal idles ++ (codes " (" ++ (decimal ((100 * idles + 8 * batches) / (16 * batches)) ++ codes "%)")))))))

-- How long a transmission of so many batches lasts at the three rates in bits a second, up to the end of the line.
unfoldable pub airtimes_part : ℕ → List ℕ
airtimes_part batches =
    let bits = transmission_bits batches in
    codes ", airtime " ++ (decimal (airtime bits 512) ++ (codes " ms at 512 bit/s, " ++ (decimal (airtime bits 1200)
    ++ (codes " ms at 1200 bit/s, " ++ (decimal (airtime bits 2400) ++ (codes " ms at 2400 bit/s" ++ (10 ∷ [])))))))

-- The line of totals.
unfoldable pub totals_line : (batches codewords idles : ℕ) → List ℕ
totals_line batches codewords idles = counts_part batches codewords idles ++ airtimes_part batches

-- The frames from 0 to 7 by their numbers, two cells wide, each with a space before it.
abbrev pub head_line : List ℕ
head_line = codes "       0  1  2  3  4  5  6  7" ++ 10 ∷ []

-- A number at the right of three columns, and spaces up to the fifth.
unfoldable pub number_column : ℕ → List ℕ
number_column n =
    let digits = length (decimal n) in
    replicate (3 - digits) 32 ++ (decimal n ++ replicate (2 - (digits - 3)) 32)

-- The two cells of a frame of a batch, both counted from 0, with a space before them; the letters by
-- their indices are given.
unfoldable pub frame_cells : (ℕ → ℕ) → (batch frame : ℕ) → List ℕ
frame_cells letter batch frame = 32 ∷ letter (16 * batch + 2 * frame) ∷ letter (16 * batch + 2 * frame + 1) ∷ []

-- The line of a batch: its number, counted from 1, and its eight frames.
unfoldable pub batch_line : (ℕ → ℕ) → ℕ → List ℕ
batch_line letter batch = number_column (batch + 1) ++ (flat_map (frame_cells letter batch) (range_with_len 0 8) ++ (10 ∷ []))

-- The lines of the batches from one, counted from 0, up to before another.
unfoldable pub batch_lines : (ℕ → ℕ) → (low high : ℕ) → List ℕ
batch_lines letter low high = flat_map (batch_line letter) (rows_between low high)

-- The text of codewords that fill batches and of the pages that they read as. The totals are those of all batches.
unfoldable pub grid_text : Rows → List Kind → List Page → List ℕ
grid_text rows ks pages =
    totals_line (batches_in ks) (length ks - idles_in ks) (idles_in ks)
    ++ (head_line ++ batch_lines (letter_at (numbers_in pages) ks) (first_row rows) (end_row rows (batches_in ks)))
