-- What `show` prints of bytes, and why it prints nothing.
use Rattle.std.specs.Prelude.{◌≡◌, ℕ, ◌<◌, ◌≤◌, List, Some, IfSome}
use Rattle.pocsag_pages.specs.declared.page.Page.{Page}
use Rattle.pocsag_decode.specs.Faults.{HasFault, ReadsAs}
use Rattle.pocsag_show.specs.Shows.{IsTextOf}
use Rattle.pocsag_show.specs.Views.{rows_wanted, view_text}
use Rattle.pocsag_show.specs.declared.rows.Rows.{Rows}
use Rattle.pocsag_show.specs.declared.view.View.{View}
use Rattle.pocsag_receiver.specs.declared.fault.ReceiverFault.{ReceiverFault}
use Rattle.pocsag_receiver.specs.declared.fault.ReceiverFault.TheVariants as fault

-- The bytes read as pages, in so many batches.
pub record ReadsInBatches (bytes : List ℕ) (batches : ℕ) : Type 0 where
  pub pages : List Page
  pub reads : ReadsAs bytes pages
  pub as_many : reads.sent.batches ≡ batches

-- If rows are asked for, the first of them is a batch of the transmission.
abbrev pub HasRows : View → (bytes : List ℕ) → Type 0
HasRows view bytes = IfSome (rows_wanted view) (λ rows. (batches : ℕ) → ReadsInBatches bytes batches → rows.first ≤ batches)

-- `show`: the text is the grid of the rows that are asked for, the listing of the places, or the drawing of these rows.
pub record IsViewed (view : View) (bytes text : List ℕ) : Type 0 where
  pub shown : IsTextOf (view_text view) bytes text
  pub rows : HasRows view bytes

-- These rows are asked for, and the first of them is behind the last batch of the transmission, which has so many.
pub record IsBehindLast (view : View) (bytes : List ℕ) (rows : Rows) (batches : ℕ) : Type 0 where
  pub wanted : rows_wanted view ≡ Some rows
  pub reads : ReadsInBatches bytes batches
  pub behind : batches < rows.first

-- The bytes have this fault, or the rows that are asked for are behind their last batch. Memory is refused only behind a part of
-- the text, which may be none of it.
abbrev pub ExplainsShowing : View → (bytes : List ℕ) → ReceiverFault → Type 0
ExplainsShowing view bytes (fault.Transmission f) = HasFault bytes f
ExplainsShowing view bytes (fault.NoSuchRows rows batches) = IsBehindLast view bytes rows batches
ExplainsShowing view bytes _ = ⊥
