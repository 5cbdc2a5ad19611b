use Rattle.pocsag_pages.proofs.Prelude.{refl, rows_known}
use Rattle.pocsag_pages.proofs.csv_row.rows_reader.Goals as goal

pub returns-clause-rows : goal.returns-clause-rows
unfolding rows_known
returns-clause-rows c = rw (c.from_reader.ensures.state, c.from_reader.ensures.source) refl
