-- What `pocsag_show` promises.
use Rattle.std.specs.Prelude.{◌≡◌, ◌≢◌, ◌⊎◌, ◌/◌, ◌<◌, ◌≤◌, ℕ, List, IfSome, IsSomeAnd, length}
use Rattle.pocsag_pages.specs.Bytes.{after_preamble}
use Rattle.pocsag_show.specs.Shows.{IsTextOf}
use Rattle.pocsag_show.specs.Views.{rows_wanted, view_text}
use Rattle.pocsag_show.specs.declared.view.View.{View}
use Rattle.pocsag_show.specs.declared.view.View.TheVariants.{Grid, Places, Drawing}
use Rattle.pocsag_wav.specs.Sounds.{ReadsAsPages}
use Rattle.pocsag_c.specs.Readings.{IsSoAsRead}

-- The number of no picture: 0 is the text with a letter for each codeword, 1 the list of places, 2 the drawing.
abbrev pub IsNoPicture : ℕ → Type 0
IsNoPicture form = (form ≢ 0) × (form ≢ 1) × (form ≢ 2)

-- The picture of this number; text and drawing show the batches from one to another, counted from 1.
abbrev pub IsNumberOfView : (form first last : ℕ) → View → Type 0
IsNumberOfView form first last (Grid rows) = (form ≡ 0) × (rows.first ≡ first) × (rows.last ≡ last)
IsNumberOfView form first last Places = form ≡ 1
IsNumberOfView form first last (Drawing rows) = (form ≡ 2) × (rows.first ≡ first) × (rows.last ≡ last)

-- No batches: they are counted from 1, and the last is not before the first.
abbrev pub AreNoRows : (first last : ℕ) → Type 0
AreNoRows first last = (first ≡ 0) ⊎ (last < first)

-- How many batches a transmission has: 68 bytes each, behind the preamble.
abbrev pub batches_of_bytes : (tx : List ℕ) → ℕ
batches_of_bytes tx = length (after_preamble tx) / 68

-- The first of the batches that are asked for is there, if some are.
abbrev pub AreThere : View → (tx : List ℕ) → Type 0
AreThere view tx = IfSome (rows_wanted view) (λ rows. rows.first ≤ batches_of_bytes tx)

-- Batches are asked for, and the first of them is behind the last.
abbrev pub AreBehindLast : View → (tx : List ℕ) → Type 0
AreBehindLast view tx = IsSomeAnd (rows_wanted view) (λ rows. batches_of_bytes tx < rows.first)

-- The text is the picture of these numbers, of the pages that the bytes, which are read by the reading of a number, read as; and
-- the first of its batches is there.
abbrev pub IsPictureAs : (reading form first last : ℕ) → (tx text : List ℕ) → Type 0
IsPictureAs reading form first last tx text = IsSoAsRead reading tx (λ bytes.
    (view : View) × IsNumberOfView form first last view × AreThere view bytes × IsTextOf (view_text view) bytes text)

-- These bytes read as pages, and the first of the picture's batches is behind their last.
abbrev pub IsBehindLastAs : (reading form first last : ℕ) → (tx : List ℕ) → Type 0
IsBehindLastAs reading form first last tx = IsSoAsRead reading tx (λ bytes.
    (view : View) × IsNumberOfView form first last view × AreBehindLast view bytes × ReadsAsPages bytes)
