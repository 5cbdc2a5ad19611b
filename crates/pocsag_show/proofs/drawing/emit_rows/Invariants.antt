use Rattle.pocsag_show.proofs.Prelude.{ℕ, ◌-◌, flat_map, range_with_len, row_drawn}
use Rattle.pocsag_show.proofs.Emitted.{StillEmits}
use Rattle.pocsag_show.proofs.drawing.emit_rows.Given as goal

abbrev pub invariant-loop-row : goal.invariant-loop-row
invariant-loop-row g l =
    let made = λ (low : ℕ). flat_map (row_drawn l.window.low) (range_with_len low (l.window.high - low)) in
    StillEmits g.S.Sink l.fn.sink l.sink l.fn.text.items l.text.items (made l.window.low) (made l.row)
