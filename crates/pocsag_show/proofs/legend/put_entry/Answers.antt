use Rattle.pocsag_show.proofs.Prelude.{◌∙◌, ap, append_assoc, entry}
use Rattle.pocsag_decode.specs.Listing.{kind_field}
use Rattle.pocsag_show.proofs.legend.put_entry.Goals as goal

pub returns : goal.returns
unfolding entry
returns c =
    let kind = c.kind_of_page.ensures ∙ ap (kind_field c.args.placed.now.page.function) c.as_slice.ensures in
    simp append_assoc at (rw (
      c.in_ok-put.ensures,
      kind,
      c.in_ok-put_printed.ensures,
      c.in_ok-put_head.ensures,
      c.in_ok-put_rectangle.ensures,
      c.in_ok-put_opened.ensures,
    ) at c.put-2.ensures)
