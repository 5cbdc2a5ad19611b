use Rattle.pocsag_pages.proofs.Prelude.{◌≡◌, true, rows_of, IsAtRecord, rows_left, has_wide}
use Rattle.pocsag_pages.proofs.file_head.has_wide_row.Given as goal

-- a wide record that is left is one of the text
abbrev pub invariant-loop : goal.invariant-loop
invariant-loop l = record {
  stands : IsAtRecord l.reader;
  left : has_wide (rows_left l.reader) ≡ true → has_wide (rows_of l.text) ≡ true;
}
