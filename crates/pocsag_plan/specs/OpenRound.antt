-- *Open round*: which page may be added to the pages of a book, and what is left of them when one is
-- cancelled.
use Rattle.std.specs.Prelude.{ℕ, List, length, filter, not, nat_eq, nat_le, Option, Some, None, if◌then◌else◌}
use Rattle.pocsag_pages.specs.declared.page.Page.{Page}
use Rattle.pocsag_pages.specs.declared.fault.PageFault.{PageFault}
use Rattle.pocsag_pages.specs.Pages.{page_limit, page_fault_of, has_address}
use Rattle.pocsag_plan.specs.declared.refusal.AddFault.{AddFault}
use Rattle.pocsag_plan.specs.declared.refusal.AddFault.TheVariants as fault

-- After the rules of a page alone: the address, then the number of pages.
abbrev pub fault_beside : List Page → Page → Option PageFault → Option AddFault
fault_beside ps p (Some broken) = Some (fault.Page broken)
fault_beside ps p None =
    if has_address ps p.address then Some fault.DuplicateAddress
    else if nat_le page_limit (length ps) then Some fault.Full else None

-- The first reason not to add the page to the pages, want of memory aside.
unfoldable pub add_fault : List Page → Page → Option AddFault
add_fault ps p = fault_beside ps p (page_fault_of p)

-- Memory is wanted only where nothing else stands against the page.
abbrev pub fault_or_memory : Option AddFault → AddFault
fault_or_memory (Some found) = found
fault_or_memory None = fault.OutOfMemory

-- The pages but that of the address, in their order.
abbrev pub without : List Page → ℕ → List Page
without ps a = filter (λ p. not (nat_eq a p.address)) ps
