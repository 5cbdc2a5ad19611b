use Rattle.pocsag_show.proofs.Prelude.{append_assoc}
use Rattle.pocsag_show.specs.Marks.{head}
use Rattle.pocsag_show.proofs.marks.put_head.Goals as goal

pub returns : goal.returns
unfolding head
returns c =
    simp append_assoc at (rw (c.in_ok-put_label.ensures, c.letter_of.ensures, c.in_ok-put_printed.ensures) at c.put.ensures)
