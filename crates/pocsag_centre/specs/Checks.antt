-- `--expect` and `--strict`: how many pages a page file holds, and why it is not taken.
use Rattle.std.specs.Prelude.{◌≡◌, ◌≢◌, ◌⊎◌, ℕ, Bool, List, length, Option, None, Some, Ok, Err}
use Rattle.pocsag_pages.specs.declared.page.Page.{Page}
use Rattle.pocsag_pages.specs.declared.fault.RoundFault.{RoundFault}
use Rattle.pocsag_pages.specs.declared.fault.RoundFault.TheVariants as round_fault
use Rattle.pocsag_pages.specs.PageFile.{held_pages}
use Rattle.pocsag_pages.specs.Quotes.{HasQuoteFault, text_of_file}
use Rattle.pocsag_centre.specs.declared.fault.CentreFault.{CentreFault}
use Rattle.pocsag_centre.specs.declared.fault.CentreFault.TheVariants as fault

-- The page file holds pages, and this is so of them; and why it holds none: memory refused, or its fault.
pub record IsOfHeld (may_wait : Bool) (file : List ℕ) (Holds : List Page → Type 0) : Type 0 where
  pub queue : List Page
  pub read : held_pages may_wait file ≡ Ok queue
  pub holds : Holds queue

abbrev pub ExplainsHeld : (may_wait : Bool) → (file : List ℕ) → RoundFault → Type 0
ExplainsHeld may_wait file f = (f ≡ round_fault.OutOfMemory) ⊎ (held_pages may_wait file ≡ Err f)

-- So many pages are as many as are expected, if a number is; and they are not.
abbrev pub IsExpected : (expect : Option ℕ) → (found : ℕ) → Type 0
IsExpected None found = Unit {0}
IsExpected (Some wanted) found = found ≡ wanted

abbrev pub IsUnexpected : (expect : Option ℕ) → (found wanted : ℕ) → Type 0
IsUnexpected expect found wanted = (expect ≡ Some wanted) × (found ≢ wanted)

-- The page file holds so many pages.
abbrev pub HoldsPages : (may_wait : Bool) → (file : List ℕ) → (pages : ℕ) → Type 0
HoldsPages may_wait file pages = IsOfHeld may_wait file (λ queue. length queue ≡ pages)

-- Why a page file of which so many pages are expected is not taken: it holds none, or another number.
abbrev pub ExplainsExpecting : (may_wait : Bool) → (file : List ℕ) → (expected : ℕ) → CentreFault → Type 0
ExplainsExpecting may_wait file expected (fault.Round f) = ExplainsHeld may_wait file f
ExplainsExpecting may_wait file expected (fault.Unexpected found wanted) =
    HoldsPages may_wait file found × (wanted ≡ expected) × (found ≢ expected)
ExplainsExpecting may_wait file expected _ = ⊥

-- Why a page file is not taken where its quotes are judged: its first misplaced quote.
abbrev pub ExplainsStrict : (file : List ℕ) → CentreFault → Type 0
ExplainsStrict file (fault.Quotes quote) = HasQuoteFault (text_of_file file) quote
ExplainsStrict file _ = ⊥
