use Rattle.pocsag_show.proofs.Prelude.{All, length, flat_map, IsListable, place_record, default_writer, row_text, IsReady, text_in, placed_left, Placed}
use Rattle.pocsag_show.proofs.Emitted.{StillEmits}
use Rattle.pocsag_show.proofs.listing.emit_places.Given as goal

abbrev pub invariant-loop-placed : goal.invariant-loop-placed
invariant-loop-placed g l =
    let f = λ (pl : Placed). row_text default_writer (place_record pl) in
    record {
      ready : IsReady l.writer;
      listable : All (λ pl. IsListable pl.page) (placed_left l.pages);
      emits :
          StillEmits g.S.Sink l.fn.sink l.sink (text_in l.fn.writer) (text_in l.writer)
          (flat_map f (placed_left l.fn.pages)) (flat_map f (placed_left l.pages));
    }

abbrev pub decreases-loop-placed : goal.decreases-loop-placed
decreases-loop-placed g l = length (placed_left l.pages)
