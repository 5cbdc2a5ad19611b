-- How a transmission is shown.
use Rattle.std.specs.Prelude.{ℕ, List, Option, Some, None}
use Rattle.pocsag_words.specs.declared.codeword.Kind.{Kind}
use Rattle.pocsag_pages.specs.declared.page.Page.{Page}
use Rattle.pocsag_show.specs.Drawing.{drawing}
use Rattle.pocsag_show.specs.Picture.{grid_text}
use Rattle.pocsag_show.specs.Places.{place_listing}
use Rattle.pocsag_show.specs.declared.rows.Rows.{Rows}
use Rattle.pocsag_show.specs.declared.view.View.{View}
use Rattle.pocsag_show.specs.declared.view.View.TheVariants.{Grid, Places, Drawing}

-- The rows that are asked for, if some are: the places are listed whole.
abbrev pub rows_wanted : View → Option Rows
rows_wanted (Grid rows) = Some rows
rows_wanted Places = None
rows_wanted (Drawing rows) = Some rows

-- What is shown of codewords and the pages that they read as: the text of the rows that are asked for, the listing of
-- the places, or the drawing of these rows.
abbrev pub view_text : View → List Kind → List Page → List ℕ
view_text (Grid rows) = grid_text rows
view_text Places = place_listing
view_text (Drawing rows) = drawing rows
