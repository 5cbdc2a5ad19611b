-- What a book keeps.
use Rattle.std.specs.Prelude.{◌≡◌, ℕ, ◌≤◌, List, length}
use Rattle.std.specs.Map.{keys_of, values_of}
use Rattle.pocsag_words.specs.declared.ending.End.TheVariants.{Open, Closed}
use Rattle.pocsag_pages.specs.declared.page.Page.{Page}
use Rattle.pocsag_pages.specs.Pages.{page_limit, AreGood, addresses_of}
use Rattle.pocsag_slots.specs.declared.class.Classes.{Classes}
use Rattle.pocsag_slots.specs.Loads.{AreClassesOf}

-- The entries are pages that may stand in one round, each under its address, at most 20,000; and each table
-- is the count of these pages for its end.
pub record IsBook (entries : List (ℕ × Page)) (for_open for_closed : Classes) : Type 0 where
  pub keyed : keys_of entries ≡ addresses_of (values_of entries)
  pub few : length (values_of entries) ≤ page_limit
  pub good : AreGood (values_of entries)
  pub counted : AreClassesOf for_open Open (values_of entries)
  pub counted_closed : AreClassesOf for_closed Closed (values_of entries)
