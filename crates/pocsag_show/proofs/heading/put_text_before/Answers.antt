use Rattle.pocsag_show.proofs.Prelude.{append_assoc, description, opening, title, text_before}
use Rattle.pocsag_show.proofs.heading.put_text_before.Goals as goal

pub returns : goal.returns
unfolding text_before opening title description
returns c =
    simp append_assoc
    (simp append_assoc at (rw (
      c.in_ok-put_totals.ensures,
      c.in_ok-put.ensures,
      c.in_ok-put_printed-2.ensures,
      c.in_ok-put_printed.ensures,
      c.height-tall.ensures,
    ) at c.put-2.ensures))
