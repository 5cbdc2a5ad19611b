-- What is extracted from a capture.
use Rattle.std.specs.Prelude.{◌≡◌, ◌⊎◌, ℕ, ◌-◌, ◌*◌, ◌<◌, ◌≤◌, List, [], ◌∷◌, ◌++◌, length, map, All, Some, slice_get}
use Rattle.std.specs.List.{AllZip, flat_map}
use Rattle.pocsag_words.specs.Codeword.{IsCodeword}
use Rattle.pocsag_words.specs.Frame.{input_limit}
use Rattle.pocsag_pages.specs.declared.page.Page.{Page}
use Rattle.pocsag_pages.specs.Bytes.{Sent, body_bytes}
use Rattle.pocsag_decode.specs.Faults.{ReadsAs}
use Rattle.pocsag_capture.specs.Bits.{capture_bits}
use Rattle.pocsag_capture.specs.CapturedPages.{AreCaptured, HasCaptured}
use Rattle.pocsag_capture.specs.Extracted.{AreExtracted}
use Rattle.pocsag_capture.specs.Receptions.{AreReceptions, all_batches, received}
use Rattle.pocsag_capture.specs.Slips.{AreInStep}
use Rattle.pocsag_capture.specs.declared.fault.CaptureFault.{CaptureFault}
use Rattle.pocsag_capture.specs.declared.fault.CaptureFault.TheVariants as fault
use Rattle.pocsag_capture.specs.declared.extract.Extracted.{Extracted}
use Rattle.pocsag_capture.specs.declared.reception.ReceptionStats.{ReceptionStats}
use Rattle.pocsag_capture.specs.declared.reception.Reception.{Reception}

-- These are the codewords that are extracted from a reception, as its counts report: whole batches.
pub record IsExtract (bits : List ℕ) (heard : ReceptionStats) (codewords : List ℕ) : Type 0 where
  pub are : All IsCodeword codewords
  pub long : length codewords ≡ 16 * all_batches heard.reception
  pub steady : AreInStep bits heard.reception heard.steady
  pub extracted : AreExtracted (received bits heard.reception) codewords (16 * heard.steady) heard.corrected heard.lost heard.cut

-- The batches that are extracted from a reception were put behind bytes.
pub record PutsExtract (bits : List ℕ) (heard : ReceptionStats) (before after : List ℕ) : Type 0 where
  pub codewords : List ℕ
  pub is : IsExtract bits heard codewords
  pub bytes : after ≡ before ++ body_bytes codewords

-- The same of receptions, one behind the other.
pub record PutsExtracts (bits : List ℕ) (receptions : List Reception) (heard : List ReceptionStats) (before after : List ℕ) : Type 0 where
  pub codewords : List (List ℕ)
  pub each : AllZip (IsExtract bits) heard codewords
  pub same : map (λ (h : ReceptionStats). h.reception) heard ≡ receptions
  pub bytes : after ≡ before ++ flat_map body_bytes codewords

-- So many batches of a reception are in step, so many of its bits were wrong, so many of its words are lost, and so many of its pages
-- are cut.
pub record IsStatsOf (bits : List ℕ) (heard : ReceptionStats) : Type 0 where
  pub steady : AreInStep bits heard.reception heard.steady
  pub codewords : List ℕ
  pub extracted : AreExtracted (received bits heard.reception) codewords (16 * heard.steady) heard.corrected heard.lost heard.cut

-- *Extracted*: the bytes are a transmission that reads as the pages of a capture, and its receptions are reported.
pub record ExtractsAll (capture : List ℕ) (extracted : Extracted) : Type 0 where
  pub pages : List Page
  pub captured : HasCaptured capture (map (λ (h : ReceptionStats). h.reception) extracted.heard.items) pages
  pub reads : ReadsAs extracted.bytes.items pages
  pub told : All (IsStatsOf (capture_bits capture)) extracted.heard.items

-- The same of one reception: the codewords of the transmission are those that are extracted from its words.
pub record ExtractsReception (capture : List ℕ) (reception : Reception) (heard : ReceptionStats) (bytes : List ℕ) : Type 0 where
  pub of : heard.reception ≡ reception
  pub codewords : List ℕ
  pub sent : Sent bytes codewords
  pub steady : AreInStep (capture_bits capture) heard.reception heard.steady
  pub words : AreExtracted (received (capture_bits capture) heard.reception) codewords (16 * heard.steady) heard.corrected heard.lost heard.cut
  pub pages : List Page
  pub captured : AreCaptured (received (capture_bits capture) heard.reception) pages
  pub reads : ReadsAs bytes pages

-- The same of the reception of a number, counted from 1.
pub record ExtractsOne (capture : List ℕ) (nth : ℕ) (heard : List ReceptionStats) (bytes : List ℕ) : Type 0 where
  pub receptions : List Reception
  pub found : AreReceptions (capture_bits capture) receptions
  pub counted : 1 ≤ nth
  pub reception : Reception
  pub is : slice_get receptions (nth - 1) ≡ Some reception
  pub told : ReceptionStats
  pub alone : heard ≡ told ∷ []
  pub extracts : ExtractsReception capture reception told bytes

-- Why nothing is extracted: the capture is larger than is read, or memory refused.
abbrev pub ExplainsUnextracted : (capture : List ℕ) → CaptureFault → Type 0
ExplainsUnextracted capture fault.TooLarge = input_limit < length capture
ExplainsUnextracted capture fault.OutOfMemory = length capture ≤ input_limit
ExplainsUnextracted capture _ = ⊥

-- There are so many receptions, and not this one, counted from 1.
pub record IsNoneOf (capture : List ℕ) (nth asked found : ℕ) : Type 0 where
  pub is_asked : asked ≡ nth
  pub receptions : List Reception
  pub are : AreReceptions (capture_bits capture) receptions
  pub count : found ≡ length receptions
  pub outside : (nth ≡ 0) ⊎ (length receptions < nth)

-- The same where one is asked for: there may be no such reception.
abbrev pub ExplainsNone : (capture : List ℕ) → (nth : ℕ) → CaptureFault → Type 0
ExplainsNone capture nth (fault.NoSuchTransmission asked found) = IsNoneOf capture nth asked found
ExplainsNone capture nth fault.TooLarge = input_limit < length capture
ExplainsNone capture nth fault.OutOfMemory = length capture ≤ input_limit
