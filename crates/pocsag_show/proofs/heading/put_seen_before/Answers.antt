use Rattle.pocsag_show.proofs.Prelude.{append_assoc, axes, headed, seen_before}
use Rattle.pocsag_show.proofs.heading.put_seen_before.Goals as goal

pub returns : goal.returns
unfolding seen_before headed axes
returns c =
    simp append_assoc
    (simp append_assoc at (rw (
      c.in_ok-put_axis-2.ensures,
      c.in_ok-put_axis.ensures,
      c.in_ok-put-2.ensures,
      c.in_ok-put_counts.ensures,
      c.in_ok-put.ensures,
      c.in_ok-put_printed.ensures,
      c.in_ok-put_style.ensures,
      c.height-tall.ensures,
    ) at c.put-3.ensures))
