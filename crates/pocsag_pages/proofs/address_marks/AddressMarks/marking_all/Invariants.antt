use Rattle.pocsag_pages.proofs.Prelude.{◌≡◌, ℕ, take, is_marked, has_address}
use Rattle.pocsag_pages.proofs.address_marks.AddressMarks.marking_all.Given as goal

abbrev pub invariant-loop-page : goal.invariant-loop-page
invariant-loop-page l = (a : ℕ) → is_marked l.marks a ≡ has_address (take l.page-index l.pages) a
