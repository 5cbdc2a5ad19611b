-- Class tables that take one page more, or give one up. The pages that a table counts are no argument of
-- the calls: there are some.
use Rattle.std.specs.Prelude.{◌<◌, ◌≤◌, List, ◌∷◌, ◌++◌, length, All}
use Rattle.pocsag_words.specs.declared.ending.End.{End}
use Rattle.pocsag_pages.specs.declared.page.Page.{Page}
use Rattle.pocsag_pages.specs.Pages.{page_limit, IsGoodPage}
use Rattle.pocsag_slots.specs.declared.class.Classes.{Classes}
use Rattle.pocsag_slots.specs.Loads.{AreClassesOf}

-- The table counts pages among which there is room for one more.
pub record CanGain (k : Classes) (end : End) (page : Page) : Type 0 where
  pub pages : List Page
  pub counted : AreClassesOf k end pages
  pub room : length pages < page_limit
  pub good : All IsGoodPage pages
  pub good_page : IsGoodPage page

-- The table counts pages among which the page stands.
pub record CanLose (k : Classes) (end : End) (page : Page) : Type 0 where
  pub before : List Page
  pub after : List Page
  pub counted : AreClassesOf k end (before ++ page ∷ after)
  pub few : length (before ++ page ∷ after) ≤ page_limit
  pub good : All IsGoodPage (before ++ page ∷ after)
