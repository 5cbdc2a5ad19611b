-- Rows that are handed out one after the other, and those of a capture that are left (this project's own).
use Rattle.std.specs.Prelude.{◌≡◌, ℕ, ◌+◌, ◌-◌, ◌*◌, ◌^◌, ◌<◌, ◌≤◌, All, IfSome, List, [], ◌∷◌, ◌++◌, Bool, length, map, take, drop, Option, None, Some, Result, Ok, Err}
use Rattle.std.specs.List.{flat_map}
use Rattle.pocsag_words.specs.Frame.{input_limit}
use Rattle.pocsag_words.specs.declared.device.Sink.{Ghosts as Writer}
use Rattle.pocsag_pages.specs.declared.page.Page.{Page}
use Rattle.pocsag_capture.specs.Bits.{capture_bits}
use Rattle.pocsag_capture.specs.PageEnds.{AreNumbered, CapturedTransmission, IsCapturedTransmission}
use Rattle.pocsag_capture.specs.PagesLeft.{AreLeft, CanRead, most_left}
use Rattle.pocsag_capture.specs.Receptions.{behind}
use Rattle.pocsag_capture.specs.declared.reception.Reception.{Reception}
use Rattle.pocsag_capture.specs.declared.reception.ReceptionStats.{ReceptionStats}
use Rattle.pocsag_decode.specs.declared.fault.ListFault.{ListFault}
use Rattle.pocsag_shell.specs.Runs.{IsStreamOf}
use Rattle.pocsag_receiver.specs.CapturedForms.{asked_rows, marked, picked_rows}
use Rattle.pocsag_receiver.specs.Faults.{fault_of_list}
use Rattle.pocsag_receiver.specs.Works.{writing}
use Rattle.pocsag_receiver.specs.declared.captured.Begun.{Begun}
use Rattle.pocsag_receiver.specs.declared.captured.CaptureRows.{CaptureRows}
use Rattle.pocsag_receiver.specs.declared.fault.ReceiverFault.{ReceiverFault}
use Rattle.pocsag_receiver.specs.declared.form.Row.{Row}

-- *Hands on*: what was left is the row that is handed out, if one is, and then what is left now; behind the last nothing
-- was left.
abbrev pub HandsOn : {R T E : Type 0} → (before after : List R → T → Type 0) → Result (Option R) E → Type 0
HandsOn before after (Ok None) = (rs : List _) (told : _) → after rs told → before [] told
HandsOn before after (Ok (Some r)) = (rs : List _) (told : _) → after rs told → before (r ∷ rs) told
HandsOn before after (Err e) = (rs : List _) (told : _) → after rs told → (all : List _) × before all told

-- What a command returns whose listing was written so: status 0, or the listing's fault.
abbrev pub as_streamed : {E : Type 0} → Result E ListFault → Result ℕ ReceiverFault
as_streamed (Ok u) = Ok 0
as_streamed (Err e) = Err (fault_of_list e)

-- *Lists rows*: whatever is left in the end, with what is reported, it was left behind rows of which the text was
-- written behind this one, or a part of it and of the text of what is left.
abbrev pub ListsRows : {S T : Type 0} → (Out : Writer S) → (out out_after : S) → (begun : List ℕ) → (text_of : Row → List ℕ) → (before after : List Row → T → Type 0) → Result ℕ ReceiverFault → Type 0
ListsRows Out out out_after begun text_of before after result =
    (rs : List Row) (told : _) → after rs told
    → (all : List Row) × before all told × IsStreamOf (writing (begun ++ flat_map text_of all)) Out out out_after result

-- *Rows of receptions*: these are the rows of receptions, of which the first has this number, and each was received so.
pub record AreRowsOf (bits : List ℕ) (only : Option ℕ) (number : ℕ) (receptions : List Reception) (rows : List Row) (heard : List ReceptionStats) : Type 0 where
  pub transmissions : List CapturedTransmission
  pub of : map (λ (c : CapturedTransmission). c.heard.reception) transmissions ≡ receptions
  pub each : All (IsCapturedTransmission bits) transmissions
  pub numbers : AreNumbered number transmissions
  pub told : heard ≡ map (λ (c : CapturedTransmission). c.heard) transmissions
  pub are : rows ≡ flat_map (asked_rows only) transmissions

-- The rows of the receptions from a place on, and how each is received; how those in front of them were received is
-- reported already.
pub record AreRowsFrom (source : CaptureRows) (place : ℕ) (rows : List Row) (heard : List ReceptionStats) : Type 0 where
  pub later : List ReceptionStats
  pub are : AreRowsOf (capture_bits source.capture.now) source.only (place + 1) (drop place source.found.now) rows later
  pub told : heard ≡ take place source.heard.items ++ later

-- *Rows left of a reception that is begun*, and of those behind it.
pub record AreRowsBehind (source : CaptureRows) (begun : Begun) (rows : List Row) (heard : List ReceptionStats) : Type 0 where
  pub pages : List Page
  pub cuts : List Bool
  pub now : ReceptionStats
  pub left : AreLeft begun.pages pages cuts now
  pub behind : List Row
  pub later : List ReceptionStats
  pub next : AreRowsOf (capture_bits source.capture.now) source.only (source.place + 1 + 1) (drop (source.place + 1) source.found.now) behind later
  pub are : rows ≡ picked_rows source.only (marked begun.mark) pages cuts ++ behind
  pub told : heard ≡ take source.place source.heard.items ++ now ∷ later

-- *Rows left* of a capture, where this reception is begun, or none; and so each reception was received.
abbrev pub AreRowsLeft : CaptureRows → Option Begun → List Row → List ReceptionStats → Type 0
AreRowsLeft source None rows heard = (rows ≡ []) × (heard ≡ source.heard.items)
AreRowsLeft source (Some begun) rows heard = AreRowsBehind source begun rows heard

-- What handing out goes by.
pub record CanHandOut (source : CaptureRows) (current : Option Begun) : Type 0 where
  pub few : length source.capture.now ≤ input_limit
  pub ends : All (λ (r : Reception). behind r < 2 ^ 60) source.found.now
  pub room : length source.heard.items ≡ length source.found.now
  pub within : source.place ≤ length source.found.now
  pub begun : IfSome current (λ b. CanRead b.pages × (source.place < length source.found.now))

-- A bound of what is left, which falls with each page and each reception.
abbrev pub most_behind : Option Begun → ℕ
most_behind None = 0
most_behind (Some begun) = most_left begun.pages

abbrev pub most_rows : CaptureRows → ℕ
most_rows source = 2 ^ 80 * (length source.found.now - source.place) + most_behind source.current
