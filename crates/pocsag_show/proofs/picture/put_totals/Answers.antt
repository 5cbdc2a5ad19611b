use Rattle.pocsag_show.proofs.Prelude.{append_assoc, airtimes_part, totals_line}
use Rattle.pocsag_show.proofs.picture.put_totals.Goals as goal

pub returns : goal.returns
unfolding totals_line airtimes_part
returns c =
    simp append_assoc at (rw (
      c.in_ok-put_counts.ensures,
      c.airtime-slow.ensures.value,
      c.airtime-middle.ensures.value,
      c.airtime-fast.ensures.value,
      c.transmission_bits-bits.ensures,
    ) at c.put_printed.ensures)
