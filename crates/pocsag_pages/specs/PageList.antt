-- The round of a list of pages, or the list's first fault (this project's own).
use Rattle.std.specs.Prelude.{◌≡◌, ℕ, ◌+◌, List, [], ◌∷◌, ◌++◌, length, nat_lt, if◌then◌else◌, Option, Some, None, Result, Ok, Err}
use Rattle.pocsag_pages.specs.declared.page.Page.{Page}
use Rattle.pocsag_pages.specs.declared.fault.PageFault.{PageFault}
use Rattle.pocsag_pages.specs.declared.fault.RecordFault.TheVariants as wrong
use Rattle.pocsag_pages.specs.declared.fault.RoundFault.{RoundFault}
use Rattle.pocsag_pages.specs.declared.fault.RoundFault.TheVariants as fault
use Rattle.pocsag_pages.specs.Pages.{page_limit, has_address, page_fault_of}

-- The fault of the page of this number, which follows these, by the first rule that it breaks, if
-- it breaks one.
abbrev pub fault_at : ℕ → List Page → Page → Option PageFault → Option RoundFault
fault_at n before p (Some broken_rule) = Some (fault.Record n (wrong.Page broken_rule))
fault_at n before p None = if has_address before p.address then Some (fault.Record n wrong.DuplicateAddress) else None

-- The fault of a page after others.
unfoldable pub fault_of_next : List Page → Page → Option RoundFault
fault_of_next before p = fault_at (length before + 1) before p (page_fault_of p)

-- The first fault, or else what is reported of the pages after it.
abbrev pub or_else : Option RoundFault → Option RoundFault → Option RoundFault
or_else (Some f) other = Some f
or_else None other = other

-- The fault of the least page that has one, of pages that follow these.
unfoldable pub first_page_fault : List Page → List Page → Option RoundFault
first_page_fault before [] = None
first_page_fault before (p ∷ rest) = or_else (fault_of_next before p) (first_page_fault (before ++ p ∷ []) rest)

-- There is a first page, and it breaks no rule.
abbrev pub BeginsWithGood : List Page → Type 0
BeginsWithGood [] = ⊥
BeginsWithGood (p ∷ ps) = page_fault_of p ≡ None

-- The pages, of which there must be one at least.
abbrev pub unless_empty : List Page → Result (List Page) RoundFault
unless_empty [] = Err fault.NoPages
unless_empty (p ∷ ps) = Ok (p ∷ ps)

-- The pages, unless one has a fault, and then unless they are too many or none: a list is judged by
-- its length after its last page, and a page file at its record 20,001.
abbrev pub unless_fault : Option RoundFault → List Page → Result (List Page) RoundFault
unless_fault (Some f) ps = Err f
unless_fault None ps = if nat_lt page_limit (length ps) then Err (fault.Record (page_limit + 1) wrong.TooManyPages) else unless_empty ps

-- The round of a list of pages, or the list's first fault.
unfoldable pub round_of_pages : List Page → Result (List Page) RoundFault
round_of_pages ps = unless_fault (first_page_fault [] ps) ps
