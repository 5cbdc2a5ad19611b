-- The statuses of the calls, and the places that belong to them (this project's own).
use Rattle.std.specs.Prelude.{ℕ, ◌≡◌, ◌≢◌, ◌⊎◌, min}
use Rattle.pocsag_pages.specs.declared.fault.PageFault.TheVariants as page
use Rattle.pocsag_pages.specs.declared.fault.FieldFault.{FieldFault}
use Rattle.pocsag_pages.specs.declared.fault.FieldFault.TheVariants as field
use Rattle.pocsag_pages.specs.declared.fault.RecordFault.{RecordFault}
use Rattle.pocsag_pages.specs.declared.fault.RecordFault.TheVariants as wrong
use Rattle.pocsag_pages.specs.declared.fault.RoundFault.{RoundFault}
use Rattle.pocsag_pages.specs.declared.fault.RoundFault.TheVariants as round
use Rattle.pocsag_pages.specs.declared.fault.QuoteFault.{QuoteFault}
use Rattle.pocsag_pages.specs.declared.fault.QuoteFault.TheVariants as quote
use Rattle.pocsag_tree.specs.declared.refusals.CertificateFault.{CertificateFault}
use Rattle.pocsag_tree.specs.declared.refusals.CertificateFault.TheVariants as certificate
use Rattle.pocsag_decode.specs.declared.fault.DecodeFault.{DecodeFault}
use Rattle.pocsag_decode.specs.declared.fault.DecodeFault.TheVariants as decoding
use Rattle.pocsag_capture.specs.declared.fault.CaptureFault.{CaptureFault}
use Rattle.pocsag_capture.specs.declared.fault.CaptureFault.TheVariants as capturing
use Rattle.pocsag_show.specs.declared.fault.ShowFault.{ShowFault}
use Rattle.pocsag_show.specs.declared.fault.ShowFault.TheVariants as showing
use Rattle.pocsag_wav.specs.declared.fault.NoSound.{NoSound}
use Rattle.pocsag_wav.specs.declared.fault.NoSound.TheVariants as sounding
use Rattle.pocsag_pager.specs.declared.fault.PagerFault.{PagerFault}
use Rattle.pocsag_pager.specs.declared.fault.PagerFault.TheVariants as hearing
use Rattle.pocsag_plan.specs.declared.fault.PlanFault.TheVariants as planning
use Rattle.pocsag_plan.specs.declared.fault.StreamFault.{StreamFault}
use Rattle.pocsag_plan.specs.declared.fault.StreamFault.TheVariants as stream
use Rattle.pocsag_plan.specs.declared.fault.UnsentFront.{UnsentFront}
use Rattle.pocsag_plan.specs.declared.fault.UnsentFront.TheVariants as front
use Rattle.pocsag_c.specs.declared.refusal.Place.{Place}
use Rattle.pocsag_c.specs.declared.refusal.StatusAt.{StatusAt}

-- The number of the interface.
abbrev pub interface_version : ℕ
interface_version = 5

-- No place.
abbrev pub nowhere : Place
nowhere = record { record_number = 0; least = 0; found = 0; at = 0 }

-- A refusal that has no place; and one for a record of the page file, and a line, a byte, a batch or a codeword, where 0 says
-- nothing.
abbrev pub plain_refusal : (status : ℕ) → StatusAt
plain_refusal status = record { status = status; place = nowhere }

abbrev pub refusal_at : (status number index : ℕ) → StatusAt
refusal_at status number index = record { status = status; place = record { record_number = number; least = 0; found = 0; at = index } }

-- From 19 on: the faults of a record of this number. Want of memory has no place.
abbrev pub refusal_of_record : (number : ℕ) → RecordFault → StatusAt
refusal_of_record n wrong.FieldCount = refusal_at 19 n 0
refusal_of_record n (wrong.Field field.BadAddress) = refusal_at 20 n 0
refusal_of_record n (wrong.Field field.ReservedAddress) = refusal_at 21 n 0
refusal_of_record n (wrong.Field field.BadKind) = refusal_at 22 n 0
refusal_of_record n (wrong.Field field.MessageForTone) = refusal_at 23 n 0
refusal_of_record n (wrong.Field field.EmptyMessage) = refusal_at 24 n 0
refusal_of_record n (wrong.Field (field.BadCharacter place)) = refusal_at 25 n place
refusal_of_record n (wrong.Field field.TooLong) = refusal_at 26 n 0
refusal_of_record n (wrong.Field field.OutOfMemory) = plain_refusal 3
refusal_of_record n (wrong.Page page.BadAddress) = refusal_at 20 n 0
refusal_of_record n (wrong.Page page.ReservedAddress) = refusal_at 21 n 0
refusal_of_record n (wrong.Page page.BadPayload) = refusal_at 29 n 0
refusal_of_record n wrong.DuplicateAddress = refusal_at 27 n 0
refusal_of_record n wrong.TooManyPages = refusal_at 28 n 0

-- The same of a page that stands in no file yet, and so has no number.
abbrev pub page_refusal : FieldFault → StatusAt
page_refusal f = refusal_of_record 0 (wrong.Field f)

-- From 16 on: the faults of a page file.
abbrev pub round_refusal : RoundFault → StatusAt
round_refusal round.ReadFault = plain_refusal 16
round_refusal round.TooLarge = plain_refusal 17
round_refusal round.BadHeader = plain_refusal 18
round_refusal (round.Record n f) = refusal_of_record n f
round_refusal round.NoPages = plain_refusal 30
round_refusal round.OutOfMemory = plain_refusal 3

-- From 32 on: the faults of a certificate.
abbrev pub certificate_refusal : CertificateFault → StatusAt
certificate_refusal certificate.NotCertificate = plain_refusal 32
certificate_refusal certificate.Version = plain_refusal 33
certificate_refusal certificate.Truncated = plain_refusal 34
certificate_refusal certificate.Trailing = plain_refusal 35
certificate_refusal certificate.BadTag = plain_refusal 36
certificate_refusal certificate.BadField = plain_refusal 37
certificate_refusal certificate.TooDeep = plain_refusal 38
certificate_refusal certificate.TooMany = plain_refusal 39
certificate_refusal certificate.ReadFault = plain_refusal 40
certificate_refusal certificate.OutOfMemory = plain_refusal 3

-- From 41 on: the quotes of a page file that do not stand as CSV has them. A record number of more than 32 bits is reported as the
-- greatest.
abbrev pub quote_refusal : QuoteFault → StatusAt
quote_refusal (quote.Unclosed n line) = refusal_at 41 (min n 4294967295) line
quote_refusal (quote.Inside n line) = refusal_at 42 (min n 4294967295) line
quote_refusal (quote.Followed n line) = refusal_at 43 (min n 4294967295) line

-- From 48 on: the faults of a transmission.
abbrev pub transmission_refusal : DecodeFault → StatusAt
transmission_refusal decoding.ShortPreamble = plain_refusal 48
transmission_refusal (decoding.NoSync batch) = refusal_at 49 0 batch
transmission_refusal (decoding.BadWord index) = refusal_at 50 0 index
transmission_refusal (decoding.Orphan index) = refusal_at 51 0 index
transmission_refusal decoding.Truncated = plain_refusal 52
transmission_refusal decoding.NoBatch = plain_refusal 53
transmission_refusal decoding.TooMuch = plain_refusal 54
transmission_refusal decoding.OutOfMemory = plain_refusal 3
transmission_refusal decoding.Failed = plain_refusal 55

-- The faults of a picture. It is written to memory, so a fault of writing is want of memory.
abbrev pub show_refusal : ShowFault → StatusAt
show_refusal (showing.Transmission f) = transmission_refusal f
show_refusal showing.WriteFault = plain_refusal 3
show_refusal showing.OutOfMemory = plain_refusal 3

-- The faults of a sound. It is written to memory, so a fault of writing is want of memory.
abbrev pub wav_refusal : NoSound → StatusAt
wav_refusal sounding.BadRate = plain_refusal 4
wav_refusal sounding.BadSamples = plain_refusal 60
wav_refusal sounding.BadPreamble = plain_refusal 61
wav_refusal (sounding.Transmission f) = transmission_refusal f
wav_refusal sounding.TooLong = plain_refusal 62
wav_refusal sounding.WriteFault = plain_refusal 3

-- The faults of a capture. No call asks for one of its transmissions alone (59).
abbrev pub capture_refusal : CaptureFault → StatusAt
capture_refusal capturing.TooLarge = plain_refusal 56
capture_refusal (capturing.NoSuchTransmission nth found) = plain_refusal 59
capture_refusal capturing.OutOfMemory = plain_refusal 3

-- The faults of what a pager is given: those of its address from 64 on.
abbrev pub pager_refusal : PagerFault → StatusAt
pager_refusal hearing.BadAddress = plain_refusal 64
pager_refusal hearing.ReservedAddress = plain_refusal 65
pager_refusal hearing.ShortPreamble = plain_refusal 48
pager_refusal hearing.NoBatch = plain_refusal 53
pager_refusal hearing.Truncated = plain_refusal 52
pager_refusal hearing.OutOfMemory = plain_refusal 3
pager_refusal hearing.Failed = plain_refusal 66

-- The faults of a plan that is written. A text is written to memory, so a fault of writing is want of memory.
abbrev pub stream_refusal : StreamFault → StatusAt
stream_refusal (stream.Plan planning.BadLimit) = plain_refusal 5
stream_refusal (stream.Plan (planning.SearchLimit stop)) = record { status = 6; place = record { record_number = 0; least = stop.least; found = stop.found; at = 0 } }
stream_refusal (stream.Plan planning.OutOfMemory) = plain_refusal 3
stream_refusal (stream.Round f) = round_refusal f
stream_refusal (stream.Transmission f) = plain_refusal 3
stream_refusal (stream.Certificate f) = plain_refusal 3

-- The faults of a front: the same, or the first page needs too many batches.
abbrev pub front_refusal : UnsentFront → StatusAt
front_refusal (front.Stream f) = stream_refusal f
front_refusal (front.FirstPage needed) = record { status = 12; place = record { record_number = 0; least = 0; found = needed; at = 0 } }

-- A status of the faults: none of those for what was done, was not shown, had no room, or was asked for by no number.
abbrev pub IsRefusing : ℕ → Type 0
IsRefusing status =
    (status ≢ 0) × (status ≢ 1) × (status ≢ 2) × (status ≢ 4) × (status ≢ 7) × (status ≢ 8) × (status ≢ 9)
    × (status ≢ 10) × (status ≢ 11) × (status ≢ 13) × (status ≢ 14)

-- The status of a text that has no room: of a transmission in file order, of a listing, or of another text.
abbrev pub IsTextTooSmall : ℕ → Type 0
IsTextTooSmall status = (status ≡ 7) ⊎ (status ≡ 9) ⊎ (status ≡ 10)

-- A status that numbers, bytes and memory explain: neither what comes of files alone (15), nor of a reader of a page file or
-- of a certificate (16, 40), nor of more bytes than are counted (54), nor of a decoder or a pager that has stopped (55, 66).
abbrev pub IsOfBytes : ℕ → Type 0
IsOfBytes status =
    (status ≢ 15) × (status ≢ 16) × (status ≢ 40) × (status ≢ 54) × (status ≢ 55) × (status ≢ 66)
