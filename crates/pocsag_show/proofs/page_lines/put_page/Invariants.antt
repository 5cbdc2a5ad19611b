use Rattle.pocsag_show.proofs.Prelude.{◌≡◌, ◌-◌, ◌≤◌, max, ◌++◌, flat_map, range_with_len, piece}
use Rattle.pocsag_show.proofs.page_lines.put_page.Given as goal

abbrev pub invariant-loop-row : goal.invariant-loop-row
invariant-loop-row l =
    (l.text.items ≡ l.initial.text.items ++ flat_map (piece l.window.low l.placed) (range_with_len l.first (l.row - l.first)))
    × (l.row ≤ max l.first l.end)
