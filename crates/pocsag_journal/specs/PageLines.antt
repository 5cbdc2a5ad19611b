-- Which pages have a line in a journal (this project's own).
use Rattle.std.specs.Prelude.{◌≡◌, ◌≤◌, List, length, All, Ok}
use Rattle.pocsag_pages.specs.PageFile.{page_of}
use Rattle.pocsag_pages.specs.Pages.{AreGood, page_limit}
use Rattle.pocsag_pages.specs.declared.page.Page.{Page}
use Rattle.pocsag_decode.specs.PageFiles.{page_record}
use Rattle.pocsag_journal.specs.Journals.{IsLine, add_record}

-- The record that adds the page is one line, and its fields spell the page.
pub record HasLine (page : Page) : Type 0 where
  pub line : IsLine (add_record page)
  pub spelled : page_of (page_record page) ≡ Ok page

-- Each of the pages has a line, and they may stand in one round.
pub record HaveLines (pages : List Page) : Type 0 where
  pub each : All HasLine pages
  pub good : AreGood pages
  pub few : length pages ≤ page_limit
