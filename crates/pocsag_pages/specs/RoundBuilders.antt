-- What is kept while a round grows.
use Rattle.std.specs.Prelude.{◌≡◌, ℕ, List, Option, Some, None, ⊤}
use Rattle.std.specs.Ordering.{nat_cmp}
use Rattle.std.specs.BTreeSet.{BTreeSet, contains}
use Rattle.pocsag_pages.specs.declared.page.Page.{Page}
use Rattle.pocsag_pages.specs.AddressMarks.{is_marked}
use Rattle.pocsag_pages.specs.Pages.{AreGood, has_address}

-- The pages so far, and the set of their addresses.
pub record IsRoundBuilder (ps : List Page) (seen : BTreeSet ℕ) : Type 0 where
  pub good : AreGood ps
  pub addresses : (a : ℕ) → contains nat_cmp seen a ≡ has_address ps a

-- The marks, where there are any, are those of the pages' addresses.
abbrev pub AreMarksOf : List Page → Option (List ℕ) → Type 0
AreMarksOf ps None = ⊤
AreMarksOf ps (Some words) = (a : ℕ) → is_marked words a ≡ has_address ps a

-- The pages so far, and the marks of their addresses.
pub record IsMarkedRound (ps : List Page) (marks : Option (List ℕ)) : Type 0 where
  pub good : AreGood ps
  pub marked : AreMarksOf ps marks
