-- What an edit of an open round does to its pages (this project's own).
use Rattle.std.specs.Prelude.{◌≡◌, ℕ, ◌^◌, ◌<◌, ◌≤◌, List, [], ◌∷◌, ◌++◌, Contains, drop, length, Some, None, Ok}
use Rattle.std.specs.Fmt.{decimal}
use Rattle.pocsag_pages.specs.PageFile.{address_of, page_of_fields}
use Rattle.pocsag_pages.specs.declared.page.Page.{Page}
use Rattle.pocsag_plan.specs.OpenRound.{add_fault, without}

-- The page that the fields of an `add` spell, against which nothing stands, goes behind the others.
pub record IsAdded (address kind message : List ℕ) (before after : List Page) : Type 0 where
  pub page : Page
  pub spelled : page_of_fields address kind message ≡ Ok page
  pub free : add_fault before page ≡ None
  pub behind : after ≡ before ++ page ∷ []

-- The page of the address that the field of a `cancel` spells is taken out.
pub record IsCancelled (spelling : List ℕ) (before after : List Page) : Type 0 where
  pub page : Page
  pub there : Contains before page
  pub spelled : address_of spelling ≡ Some page.address
  pub rest : after ≡ without before page.address

-- The field is the decimal number of a count, from 1.
pub record SpellsCount (field : List ℕ) (count : ℕ) : Type 0 where
  pub some : 0 < count
  pub small : count < 2 ^ 32
  pub spelled : field ≡ decimal count

-- The first pages, as many as the field of a `sent` says, are taken out.
pub record IsSent (field : List ℕ) (before after : List Page) : Type 0 where
  pub count : ℕ
  pub spelled : SpellsCount field count
  pub there : count ≤ length before
  pub rest : after ≡ drop count before
