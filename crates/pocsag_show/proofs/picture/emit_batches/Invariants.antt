use Rattle.pocsag_show.proofs.Prelude.{ℕ, ◌-◌, slice_index, flat_map, range_with_len, batch_line}
use Rattle.pocsag_show.proofs.Emitted.{StillEmits}
use Rattle.pocsag_show.proofs.picture.emit_batches.Given as goal

abbrev pub invariant-loop-batch : goal.invariant-loop-batch
invariant-loop-batch g l =
    let made = λ (low : ℕ). flat_map (batch_line (slice_index l.letters)) (range_with_len low (l.fn.window.high - low)) in
    StillEmits g.S.Sink l.fn.sink l.sink l.fn.text.items l.text.items (made l.fn.window.low) (made l.batch)
