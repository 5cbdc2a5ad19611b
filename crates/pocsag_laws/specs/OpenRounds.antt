-- The pages of an open round.
use Rattle.std.specs.Prelude.{◌≡◌, ◌⊎◌, ℕ, List, [], Ok}
use Rattle.pocsag_pages.specs.PageFile.{Row, verdict}
use Rattle.pocsag_pages.specs.declared.page.Page.{Page}
use Rattle.pocsag_journal.specs.Runs.{IsRun}

-- Pages of an open round: a run of edits leads to them from no pages, or from those of a page file.
pub record IsOpenRound (pages : List Page) : Type 0 where
  pub first : List Page
  pub begins : (first ≡ []) ⊎ ((file : List ℕ) × (verdict file ≡ Ok first))
  pub rows : List Row
  pub run : IsRun rows first pages
