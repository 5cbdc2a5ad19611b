-- What is read of the bytes that a caller gives, by the number of a reading.
use Rattle.std.specs.Prelude.{◌≡◌, ◌≢◌, ◌⊎◌, ℕ, List}
use Rattle.pocsag_decode.specs.Repairs.{IsRepairOf}
use Rattle.pocsag_capture.specs.ExtractedBytes.{ExplainsUnextracted, ExtractsAll}
use Rattle.pocsag_capture.specs.declared.extract.Extracted.{Extracted}
use Rattle.pocsag_c.specs.Answers.{PrintsFault}
use Rattle.pocsag_c.specs.Statuses.{capture_refusal, nowhere}
use Rattle.pocsag_c.specs.declared.reading.Read.{Read}
use Rattle.pocsag_c.specs.declared.reading.Read.TheVariants.{Given, Made}
use Rattle.pocsag_c.specs.declared.reading.Reading.{Reading}
use Rattle.pocsag_c.specs.declared.reading.Reading.TheVariants.{Plain, Repaired, Captured}
use Rattle.pocsag_c.specs.declared.refusal.Place.{Place}

-- The number of a reading.
abbrev pub number_of_reading : Reading → ℕ
number_of_reading Plain = 0
number_of_reading Repaired = 1
number_of_reading Captured = 2

-- The number of no reading.
abbrev pub IsNoReading : ℕ → Type 0
IsNoReading number = (number ≢ 0) × (number ≢ 1) × (number ≢ 2)

-- The bytes that are at hand.
abbrev pub bytes_in : Read → List ℕ
bytes_in (Given bytes) = bytes.now
bytes_in (Made bytes) = bytes.items

-- The bytes that are read of those that are given: these, their repair, or all transmissions of a capture, one behind the other, as they
-- are extracted from it.
abbrev pub AreReadAs : Reading → (given bytes : List ℕ) → Type 0
AreReadAs Plain given bytes = bytes ≡ given
AreReadAs Repaired given bytes = IsRepairOf given bytes
AreReadAs Captured given bytes = (extracted : Extracted) × ExtractsAll given extracted × (bytes ≡ extracted.bytes.items)

-- This is so of the bytes that are read by the reading of this number.
pub record IsSoAsRead (number : ℕ) (given : List ℕ) (P : List ℕ → Type 0) : Type 0 where
  pub reading : Reading
  pub same_number : number ≡ number_of_reading reading
  pub bytes : List ℕ
  pub read : AreReadAs reading given bytes
  pub holds : P bytes

-- Nothing is read: memory is wanting for the repair, or nothing is extracted from the capture.
abbrev pub IsUnreadAs : Reading → (given : List ℕ) → (status : ℕ) → Place → Type 0
IsUnreadAs Plain given status place = ⊥
IsUnreadAs Repaired given status place = (status ≡ 3) × (place ≡ nowhere)
IsUnreadAs Captured given status place = PrintsFault capture_refusal (ExplainsUnextracted given) status place

-- The same by the reading of this number; or this is so of the bytes that are read.
abbrev pub IsUnreadOr : (number : ℕ) → (given : List ℕ) → (status : ℕ) → Place → (List ℕ → Type 0) → Type 0
IsUnreadOr number given status place P =
    ((reading : Reading) × (number ≡ number_of_reading reading) × IsUnreadAs reading given status place) ⊎ IsSoAsRead number given P
