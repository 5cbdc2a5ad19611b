-- Which rows of a picture are drawn (this project's own). A row is a batch; rows are asked for by the numbers of
-- batches, counted from 1, and are counted from 0 in what follows.
use Rattle.std.specs.Prelude.{ℕ, ◌-◌, min, List}
use Rattle.std.specs.List.{range_with_len}
use Rattle.pocsag_show.specs.declared.rows.Rows.{Rows}

-- The first row that is drawn.
abbrev pub first_row : Rows → ℕ
first_row rows = rows.first - 1

-- The row behind the last that is drawn, in a picture of so many: rows that it does not have are not drawn.
abbrev pub end_row : Rows → ℕ → ℕ
end_row rows batches = min rows.last batches

-- The rows from one up to before another, in order.
abbrev pub rows_between : (low high : ℕ) → List ℕ
rows_between low high = range_with_len low (high - low)
