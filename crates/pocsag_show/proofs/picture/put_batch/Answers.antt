use Rattle.pocsag_show.proofs.Prelude.{◌≡◌, append_assoc, arith, batch_line, number_column}
use Rattle.pocsag_show.proofs.picture.put_batch.Goals as goal

pub returns : goal.returns
unfolding batch_line number_column
returns c =
    let all : c.loop-frame.frame ≡ 8 = omega (arith, c.loop-frame.auto.frame-end, c.loop-frame-test.false) in
    simp append_assoc
    (simp append_assoc at (rw (
      c.loop-frame.invariant,
      all,
      c.in_ok-put_spaces-2.ensures,
      c.in_ok-put.ensures,
      c.in_ok-put_spaces.ensures,
      c.saturating_sub-3.ensures,
      c.saturating_sub-2.ensures,
      c.saturating_sub.ensures,
      c.as_bytes-digits.ensures.value,
      c.format.ensures.text,
    ) at c.put-2.ensures))
