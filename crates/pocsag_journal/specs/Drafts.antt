-- What a draft keeps (this project's own).
use Rattle.std.specs.Prelude.{◌≡◌, ◌<◌, ◌≤◌, ℕ, List, length}
use Rattle.std.specs.Map.{keys_of, values_of}
use Rattle.pocsag_pages.specs.Pages.{AreGood, addresses_of, page_limit}
use Rattle.pocsag_pages.specs.declared.page.Page.{Page}

-- The entries are pages that may stand in one round, each under its address, and there is room for one page more.
pub record IsDraft (entries : List (ℕ × Page)) (room : ℕ) : Type 0 where
  pub keyed : keys_of entries ≡ addresses_of (values_of entries)
  pub few : length (values_of entries) ≤ page_limit
  pub good : AreGood (values_of entries)
  pub roomy : page_limit < room
