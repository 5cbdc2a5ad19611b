use Rattle.pocsag_show.proofs.Prelude.{All, length, flat_map, IsListable, page_drawn, placed_left}
use Rattle.pocsag_show.proofs.Emitted.{StillEmits}
use Rattle.pocsag_show.proofs.page_lines.emit_pages.Given as goal

abbrev pub invariant-loop-placed : goal.invariant-loop-placed
invariant-loop-placed g l =
    let f = page_drawn l.window.low l.window.high in
    record {
      listable : All (λ pl. IsListable pl.page) (placed_left l.pages);
      emits :
          StillEmits g.S.Sink l.fn.sink l.sink l.fn.text.items l.text.items
          (flat_map f (placed_left l.fn.pages)) (flat_map f (placed_left l.pages));
    }

abbrev pub decreases-loop-placed : goal.decreases-loop-placed
decreases-loop-placed g l = length (placed_left l.pages)
