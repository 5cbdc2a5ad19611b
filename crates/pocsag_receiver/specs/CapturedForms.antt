-- How the pages of captures are listed: each with its mark (this project's own).
use Rattle.std.specs.Prelude.{ℕ, ◌==◌, Bool, true, if◌then◌else◌, List, [], ◌∷◌, ◌++◌, Option, Some, None, codes}
use Rattle.std.specs.List.{flat_map}
use Rattle.csv.specs.Writing.{default_writer, row_text}
use Rattle.json.specs.Json.{Json, object}
use Rattle.pocsag_pages.specs.declared.page.Page.{Page}
use Rattle.pocsag_capture.specs.Bits.{inverts}
use Rattle.pocsag_capture.specs.PageEnds.{CapturedTransmission}
use Rattle.pocsag_capture.specs.declared.reception.Reception.{Reception}
use Rattle.pocsag_decode.specs.Listing.{header}
use Rattle.pocsag_receiver.specs.Forms.{members_of, names_in, page_members, row_in}
use Rattle.pocsag_receiver.specs.declared.captured.PageOrigin.{PageOrigin}
use Rattle.pocsag_receiver.specs.declared.captured.CaptureOptions.{CaptureOptions}
use Rattle.pocsag_receiver.specs.declared.form.Row.{Row}

-- The JSON object of a page of a capture.
abbrev pub captured_object : List Bool → PageOrigin → Page → Json
captured_object texts m p = object (page_members texts p (members_of (Some m)))

-- What is reported of a page of the transmission with this number and this reception; the page is cut or not.
abbrev pub mark_of : (number : ℕ) → Reception → (is_cut : Bool) → PageOrigin
mark_of number r is_cut = record { is_cut = is_cut; transmission = number; is_inverted = inverts r.polarity; bit = r.bit }

-- The same where the number, the polarity and the bit are at hand.
abbrev pub marked : PageOrigin → (is_cut : Bool) → PageOrigin
marked m is_cut = record { is_cut = is_cut; transmission = m.transmission; is_inverted = m.is_inverted; bit = m.bit }

-- Whether the pages of an address are asked for: those of all addresses, or those of one.
abbrev pub is_picked : (only : Option ℕ) → (address : ℕ) → Bool
is_picked None address = true
is_picked (Some one) address = address == one

-- The rows of those pages that are asked for, each with its mark.
abbrev pub picked_rows : (only : Option ℕ) → (mark : Bool → PageOrigin) → List Page → (cuts : List Bool) → List Row
picked_rows only mark [] cuts = []
picked_rows only mark (p ∷ ps) [] = []
picked_rows only mark (p ∷ ps) (is_cut ∷ cuts) =
    (if is_picked only p.address then record { page = p; mark = Some (mark is_cut) } ∷ [] else []) ++ picked_rows only mark ps cuts

-- The rows of a transmission of those pages that are asked for.
abbrev pub asked_rows : (only : Option ℕ) → CapturedTransmission → List Row
asked_rows only c = picked_rows only (mark_of c.number c.heard.reception) c.pages c.cuts

-- The listing of a capture: a record or a line of JSON for each page that is asked for, in CSV behind the record of the names.
abbrev pub captured_listing : CaptureOptions → List CapturedTransmission → List ℕ
captured_listing k cs =
    names_in k.form (row_text default_writer (header ++ codes "state" ∷ []))
    ++ flat_map (row_in k.form) (flat_map (asked_rows k.only) cs)
