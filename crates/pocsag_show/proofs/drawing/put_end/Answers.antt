use Rattle.pocsag_show.proofs.Prelude.{append_assoc, behind_pages, frame_lines, key}
use Rattle.pocsag_show.proofs.drawing.put_end.Goals as goal

pub returns : goal.returns
unfolding behind_pages frame_lines key
returns c =
    simp append_assoc
    (simp append_assoc at (rw (
      c.in_ok-put_legend.ensures,
      c.in_ok-put_printed.ensures,
      c.in_ok-put_frame_lines.ensures,
      c.count.ensures,
      c.count-2.ensures,
    ) at c.put.ensures))
