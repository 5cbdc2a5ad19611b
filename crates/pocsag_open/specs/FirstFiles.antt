-- Why the page file that a round would begin with is refused before it is read as one (this project's own).
use Rattle.std.specs.Prelude.{◌≡◌, ◌≢◌, ◌⊎◌, ℕ, Bool, true, List, length, Option, Some, Ok, Err}
use Rattle.pocsag_pages.specs.PageFile.{verdict}
use Rattle.pocsag_pages.specs.Quotes.{HasQuoteFault, text_of_file}
use Rattle.pocsag_pages.specs.declared.fault.RoundFault.TheVariants as round
use Rattle.pocsag_pages.specs.declared.page.Page.{Page}
use Rattle.pocsag_open.specs.declared.fault.OpenFault.{OpenFault}
use Rattle.pocsag_open.specs.declared.fault.OpenFault.TheVariants as fault

-- The page file is that of a round of so many pages.
abbrev pub HoldsRoundOf : (count : ℕ) → (file : List ℕ) → Type 0
HoldsRoundOf count file = (pages : List Page) × (verdict file ≡ Ok pages) × (length pages ≡ count)

-- *Refused*: its first misplaced quote, where quotes are judged; that it is no page file of a round; or that it holds another number
-- of pages than is expected.
abbrev pub ExplainsRefused : (strict : Bool) → (expect : Option ℕ) → (file : List ℕ) → OpenFault → Type 0
ExplainsRefused strict expect file (fault.Quotes quote) = (strict ≡ true) × HasQuoteFault (text_of_file file) quote
ExplainsRefused strict expect file (fault.Round f) = (f ≡ round.OutOfMemory) ⊎ (verdict file ≡ Err f)
ExplainsRefused strict expect file (fault.Unexpected found wanted) = (expect ≡ Some wanted) × (found ≢ wanted) × HoldsRoundOf found file
ExplainsRefused strict expect file _ = ⊥
