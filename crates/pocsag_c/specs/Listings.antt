-- What `pocsag_decode` and `pocsag_hear` promise.
use Rattle.std.specs.Prelude.{◌≡◌, ◌⊎◌, ℕ, List, None, Some}
use Rattle.pocsag_pages.specs.Bytes.{after_preamble, words_of}
use Rattle.pocsag_pages.specs.declared.page.Page.{Page}
use Rattle.pocsag_decode.specs.Faults.{HasFault, ReadsAs}
use Rattle.pocsag_decode.specs.Listing.{listing}
use Rattle.pocsag_decode.specs.declared.fault.DecodeFault.{DecodeFault}
use Rattle.pocsag_decode.specs.declared.fault.DecodeFault.TheVariants as decoding
use Rattle.pocsag_pager.specs.Faults.{hearing_fault}
use Rattle.pocsag_pager.specs.Shown.{AreShown}
use Rattle.pocsag_pager.specs.declared.fault.PagerFault.{PagerFault}
use Rattle.pocsag_pager.specs.declared.fault.PagerFault.TheVariants as hearing
use Rattle.pocsag_c.specs.Answers.{IsDelivered, IsTooSmall}
use Rattle.pocsag_c.specs.Readings.{IsSoAsRead}

-- A text of which this is said stands in the buffer, with its length reported.
pub record IsListed (IsText : List ℕ → Type 0) (before after : List ℕ) (told : ℕ) : Type 0 where
  pub text : List ℕ
  pub is : IsText text
  pub delivered : IsDelivered before after told text

-- The buffer is too small for such a text, and the text's length is reported.
pub record HasNoRoom (IsText : List ℕ → Type 0) (before after : List ℕ) (told : ℕ) : Type 0 where
  pub text : List ℕ
  pub is : IsText text
  pub too_small : IsTooSmall before after told text

-- The text is the listing of the pages that the bytes of a transmission read as.
pub record IsListingOf (tx text : List ℕ) : Type 0 where
  pub pages : List Page
  pub reads : ReadsAs tx pages
  pub listed : text ≡ listing pages

-- The bytes have this fault, of which they have one at most; or they read as pages, and memory is wanting.
abbrev pub ExplainsUnlisted : (tx : List ℕ) → DecodeFault → Type 0
ExplainsUnlisted tx f = HasFault tx f ⊎ ((f ≡ decoding.OutOfMemory) × ((pages : List Page) × ReadsAs tx pages))

-- The text is the listing of the pages that a pager of the address shows of the bytes.
pub record IsListingShown (address : ℕ) (tx text : List ℕ) : Type 0 where
  pub taken : hearing_fault address tx ≡ None
  pub pages : List Page
  pub shown : AreShown (words_of (after_preamble tx)) address pages
  pub listed : text ≡ listing pages

-- The address or the bytes have this fault; or they have none, and memory is wanting.
abbrev pub ExplainsUnheard : (address : ℕ) (tx : List ℕ) → PagerFault → Type 0
ExplainsUnheard address tx f = (hearing_fault address tx ≡ Some f) ⊎ ((hearing_fault address tx ≡ None) × (f ≡ hearing.OutOfMemory))

-- The same two listings of the bytes that are read by the reading of a number.
abbrev pub IsListingAs : (reading : ℕ) → (tx text : List ℕ) → Type 0
IsListingAs reading tx text = IsSoAsRead reading tx (λ bytes. IsListingOf bytes text)

abbrev pub IsListingShownAs : (reading address : ℕ) → (tx text : List ℕ) → Type 0
IsListingShownAs reading address tx text = IsSoAsRead reading tx (λ bytes. IsListingShown address bytes text)
