use Rattle.pocsag_show.proofs.Prelude.{All, length, IsListable, placed_left}
use Rattle.pocsag_show.proofs.LegendPages.{IsCollected}
use Rattle.pocsag_show.proofs.legend.first_drawn.Given as goal

abbrev pub invariant-loop-drawn : goal.invariant-loop-drawn
invariant-loop-drawn l = record {
  left : All (λ pl. IsListable pl.page) (placed_left l.pages);
  kept : All (λ pl. IsListable pl.page) l.drawn.items;
  collected : IsCollected l.window.low l.window.high (placed_left l.fn.pages) l.drawn.items (placed_left l.pages);
}

abbrev pub decreases-loop-drawn : goal.decreases-loop-drawn
decreases-loop-drawn l = length (placed_left l.pages)
