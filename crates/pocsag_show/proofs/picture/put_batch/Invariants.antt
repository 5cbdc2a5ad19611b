use Rattle.pocsag_show.proofs.Prelude.{◌≡◌, ◌++◌, slice_index, flat_map, range_with_len, frame_cells}
use Rattle.pocsag_show.proofs.picture.put_batch.Given as goal

abbrev pub invariant-loop-frame : goal.invariant-loop-frame
invariant-loop-frame l = l.text.items ≡ l.initial.text.items ++ flat_map (frame_cells (slice_index l.letters) l.batch) (range_with_len 0 l.frame)
