use Rattle.pocsag_show.proofs.Prelude.{◌≡◌, ◌++◌, codes, flat_map, range_with_len, frame_line}
use Rattle.pocsag_show.proofs.drawing.put_frame_lines.Given as goal

abbrev pub invariant-loop-frame : goal.invariant-loop-frame
invariant-loop-frame l =
    l.text.items ≡ (l.fn.text.items ++ codes "<path class='f' d='") ++ flat_map (frame_line l.bottom) (range_with_len 0 l.frame)
