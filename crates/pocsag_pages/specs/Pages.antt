-- Which pages may stand in a round (this project's own limits).
use Rattle.std.specs.Prelude.{◌≡◌, ◌==◌, ◌&&◌, ◌||◌, ◌⊎◌, ℕ, ◌^◌, ◌<◌, ◌≤◌, List, [], length, map, Bool, false, not, nat_lt, nat_le, if◌then◌else◌, Option, Some, None, All, nat_eq}
use Rattle.std.specs.List.{list_any, IsDistinct}
use Rattle.pocsag_text.specs.Bits.{item_width, AreItems}
use Rattle.pocsag_text.specs.Text.{item_limit}
use Rattle.pocsag_pages.specs.declared.page.Page.{Page}
use Rattle.pocsag_pages.specs.declared.fault.PageFault.{PageFault}
use Rattle.pocsag_pages.specs.declared.fault.PageFault.TheVariants as page_fault

-- The greatest address, which has 21 bits (a rule of Annex 1).
abbrev pub last_address : ℕ
last_address = 2097151

-- The most pages of a round (this project's own).
abbrev pub page_limit : ℕ
page_limit = 20000

-- The greatest function, which has two bits (a rule of Annex 1).
abbrev pub last_function : ℕ
last_function = 3

-- The addresses that the idle codeword and the synchronisation codeword would be read as, in each
-- of the eight frames: they are refused with every function (this project's own).
unfoldable pub is_reserved : ℕ → Bool
is_reserved a = (nat_le 2007664 a && nat_le a 2007671) || (nat_le 2045056 a && nat_le a 2045063)

-- A function above 3, a message for function 1 or 2, too many items, or an item of over 20 bits.
unfoldable pub is_bad_payload : ℕ → List ℕ → Bool
is_bad_payload function items =
    nat_lt last_function function || ((function == 1 || function == 2) && not (length items == 0))
    || nat_lt item_limit (length items) || list_any (nat_le (2 ^ item_width)) items

-- The first rule that a page breaks.
abbrev pub page_fault_of : Page → Option PageFault
page_fault_of p =
    if nat_lt last_address p.address then Some page_fault.BadAddress
    else if is_reserved p.address then Some page_fault.ReservedAddress
    else if is_bad_payload p.function p.payload then Some page_fault.BadPayload else None

abbrev pub addresses_of : List Page → List ℕ
addresses_of ps = map (λ p. p.address) ps

-- Whether one of the pages has the address.
abbrev pub has_address : List Page → ℕ → Bool
has_address ps a = list_any (nat_eq a) (addresses_of ps)

-- Pages that break no rule, with distinct addresses.
pub record AreGood (ps : List Page) : Type 0 where
  pub each : All (λ p. page_fault_of p ≡ None) ps
  pub apart : IsDistinct nat_eq (addresses_of ps)

-- What a round keeps.
pub record IsRound (ps : List Page) : Type 0 where
  pub some : 0 < length ps
  pub few : length ps ≤ page_limit
  pub good : AreGood ps

-- A page that breaks no rule, in plain facts.
pub record IsGoodPage (p : Page) : Type 0 where
  pub address : p.address < 2 ^ 21
  pub unreserved : is_reserved p.address ≡ false
  pub function : p.function < 4
  pub few : length p.payload ≤ item_limit
  pub small : AreItems p.payload
  pub silent : (p.function ≡ 1) ⊎ (p.function ≡ 2) → p.payload ≡ []
