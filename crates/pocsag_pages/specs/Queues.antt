-- *Queue*: the pages of a page file in which several may be for one address; which of them are sent next, and which are left
-- (this project's own).
use Rattle.std.specs.Prelude.{◌≡◌, ◌&&◌, ℕ, ◌<◌, ◌≤◌, List, [], ◌∷◌, ◌++◌, length, filter, not, nat_eq, if◌then◌else◌, Bool, true, None, Result, All}
use Rattle.pocsag_pages.specs.declared.page.Page.{Page}
use Rattle.pocsag_pages.specs.declared.fault.RoundFault.{RoundFault}
use Rattle.pocsag_pages.specs.Pages.{has_address, page_fault_of, page_limit}
use Rattle.pocsag_pages.specs.PageFile.{held_pages}

-- The queue that a page file holds, or its first fault: as *Verdict of a page file*, but that an address may come again.
abbrev pub queue_verdict : List ℕ → Result (List Page) RoundFault
queue_verdict bytes = held_pages true bytes

-- What a queue keeps.
pub record IsQueue (ps : List Page) : Type 0 where
  pub some : 0 < length ps
  pub few : length ps ≤ page_limit
  pub each : All (λ p. page_fault_of p ≡ None) ps

-- The first page of each address, of pages that follow these.
unfoldable pub firsts_after : (before : List Page) → List Page → List Page
firsts_after before [] = []
firsts_after before (p ∷ ps) = if has_address before p.address then firsts_after before ps else p ∷ firsts_after (before ++ p ∷ []) ps

-- The first page of each address, in order.
abbrev pub firsts : List Page → List Page
firsts queue = firsts_after [] queue

-- The page is sent: it is for an address of these, and the first for it.
abbrev pub is_sent : (sent before : List Page) → Page → Bool
is_sent sent before p = has_address sent p.address && not (has_address before p.address)

-- The pages that are left, of pages that follow these.
unfoldable pub left_after : (sent before : List Page) → List Page → List Page
left_after sent before [] = []
left_after sent before (p ∷ ps) =
    if is_sent sent before p then left_after sent (before ++ p ∷ []) ps else p ∷ left_after sent (before ++ p ∷ []) ps

-- The pages of a queue that are left where the first page for each address of these is sent, in order.
abbrev pub left_of : (sent queue : List Page) → List Page
left_of sent queue = left_after sent [] queue

-- The pages for an address, in order.
abbrev pub pages_for : ℕ → List Page → List Page
pages_for a ps = filter (λ p. nat_eq a p.address) ps
