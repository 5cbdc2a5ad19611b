-- Which addresses and which bytes a pager refuses (this project's own).
use Rattle.std.specs.Prelude.{ℕ, ◌%◌, ◌==◌, not, nat_lt, if◌then◌else◌, List, length, Option, Some, None}
use Rattle.std.specs.Option.{option_or}
use Rattle.pocsag_pages.specs.Bytes.{after_preamble, leading}
use Rattle.pocsag_pages.specs.Pages.{last_address, is_reserved}
use Rattle.pocsag_pager.specs.declared.fault.PagerFault.{PagerFault}
use Rattle.pocsag_pager.specs.declared.fault.PagerFault.TheVariants as fault

-- The fault of an address: it has more than 21 bits, or is reserved.
unfoldable pub address_fault : ℕ → Option PagerFault
address_fault a =
    if nat_lt last_address a then Some fault.BadAddress
    else if is_reserved a then Some fault.ReservedAddress else None

-- The fault of a transmission's bytes: fewer than 72 bytes AA stand first, nothing follows them, or
-- what follows them is not whole batches of 68 bytes.
unfoldable pub bytes_fault : List ℕ → Option PagerFault
bytes_fault bytes =
    if nat_lt (leading bytes) 72 then Some fault.ShortPreamble
    else if length (after_preamble bytes) == 0 then Some fault.NoBatch
    else if not (length (after_preamble bytes) % 68 == 0) then Some fault.Truncated else None

-- The first fault of an address and a transmission's bytes.
abbrev pub hearing_fault : ℕ → List ℕ → Option PagerFault
hearing_fault a bytes = option_or (address_fault a) (bytes_fault bytes)
