-- What `--capture` prints of a capture, and why it prints nothing.
use Rattle.std.specs.Prelude.{◌≡◌, ℕ, ◌*◌, ◌≤◌, List, ◌++◌, length, map, All, Option, None, Some, IfSome}
use Rattle.pocsag_words.specs.Frame.{input_limit}
use Rattle.pocsag_pages.specs.declared.page.Page.{Page}
use Rattle.pocsag_pages.specs.Bytes.{unsynced}
use Rattle.pocsag_capture.specs.Bits.{capture_bits}
use Rattle.pocsag_capture.specs.ExtractedBytes.{ExplainsNone, ExplainsUnextracted, ExtractsOne}
use Rattle.pocsag_capture.specs.PageEnds.{CapturedTransmission, HasTransmissions, UncutStandWhole, pages_captured}
use Rattle.pocsag_capture.specs.Receptions.{AreReceptions, received}
use Rattle.pocsag_capture.specs.Sent.{StandAmong}
use Rattle.pocsag_capture.specs.Slips.{AreInStep}
use Rattle.pocsag_capture.specs.declared.reception.ReceptionStats.{ReceptionStats}
use Rattle.pocsag_pager.specs.Faults.{address_fault}
use Rattle.pocsag_shell.specs.declared.fault.FileFault.TheVariants as file
use Rattle.pocsag_show.specs.declared.view.View.{View}
use Rattle.pocsag_receiver.specs.CapturedForms.{captured_listing}
use Rattle.pocsag_receiver.specs.Views.{IsBehindLast}
use Rattle.pocsag_receiver.specs.declared.captured.CaptureOptions.{CaptureOptions}
use Rattle.pocsag_receiver.specs.declared.fault.ReceiverFault.{ReceiverFault}
use Rattle.pocsag_receiver.specs.declared.fault.ReceiverFault.TheVariants as fault

-- The text is the listing of a capture: of those of its pages that are asked for, each with its state. How each transmission
-- was received is reported. The address that is asked for, if one is, is one that a pager can have.
pub record IsCaptureListed (k : CaptureOptions) (heard : List ReceptionStats) (capture text : List ℕ) : Type 0 where
  pub address : IfSome k.only (λ a. address_fault a ≡ None)
  pub transmissions : List CapturedTransmission
  pub captured : HasTransmissions capture transmissions
  pub printed : heard ≡ map (λ (c : CapturedTransmission). c.heard) transmissions
  pub listed : text ≡ captured_listing k transmissions

-- *Listed as whole*: pages of the receptions of a capture were listed, and each that is listed as whole stands whole among the words
-- of its reception that are in step.
pub record ListsWhole (capture : List ℕ) (k : CaptureOptions) (out_before out_after : List ℕ) : Type 0 where
  pub transmissions : List CapturedTransmission
  pub found : AreReceptions (capture_bits capture) (map (λ (c : CapturedTransmission). c.heard.reception) transmissions)
  pub in_step : All (λ (c : CapturedTransmission). AreInStep (capture_bits capture) c.heard.reception c.heard.steady) transmissions
  pub whole : All (λ (c : CapturedTransmission). UncutStandWhole (unsynced 0 (received (capture_bits capture) c.heard.reception)) (16 * c.heard.steady) c.pages c.cuts) transmissions
  pub listed : out_after ≡ out_before ++ captured_listing k transmissions

-- Pages were listed among which these stand, one behind the other: of all of them those that are asked for.
pub record ListsAmong (k : CaptureOptions) (ps : List Page) (out_before out_after : List ℕ) : Type 0 where
  pub transmissions : List CapturedTransmission
  pub among : StandAmong ps (pages_captured transmissions)
  pub listed : out_after ≡ out_before ++ captured_listing k transmissions

-- Pages of one address are asked for, and the address has this fault; or memory was refused, or the capture is too large: it is
-- never refused for what it holds.
abbrev pub ExplainsCaptured : (only : Option ℕ) → (capture : List ℕ) → ReceiverFault → Type 0
ExplainsCaptured only capture (fault.Pager f) = (address : ℕ) × (only ≡ Some address) × (address_fault address ≡ Some f)
ExplainsCaptured only capture (fault.Capture f) = ExplainsUnextracted capture f
ExplainsCaptured only capture (fault.File file.OutOfMemory) = length capture ≤ input_limit
ExplainsCaptured only capture _ = ⊥

-- These are the bytes of the transmission of this number, as it is extracted, and how it was received is reported.
pub record IsSoOfOne (capture : List ℕ) (nth : ℕ) (heard : List ReceptionStats) (P : List ℕ → Type 0) : Type 0 where
  pub bytes : List ℕ
  pub extracts : ExtractsOne capture nth heard bytes
  pub holds : P bytes

-- There is no such transmission, or it was not extracted for want of memory, or the rows that are asked for are behind its last
-- batch.
abbrev pub ExplainsOne : View → (nth : ℕ) → (capture : List ℕ) → ReceiverFault → Type 0
ExplainsOne view nth capture (fault.Capture f) = ExplainsNone capture nth f
ExplainsOne view nth capture (fault.NoSuchRows rows batches) =
    (heard : List ReceptionStats) × IsSoOfOne capture nth heard (λ bytes. IsBehindLast view bytes rows batches)
ExplainsOne view nth capture _ = ⊥
