use Rattle.pocsag_tour.proofs.Prelude.{slice_index, sum_below, IsWalk, ArePassed}
use Rattle.pocsag_tour.proofs.walk.walk.Given as goal

abbrev pub invariant-segments : goal.invariant-segments
invariant-segments l = record {
  walk : IsWalk (slice_index l.counts) (slice_index l.exits.arcs) (slice_index l.left) l.steps.items l.at l.root;
  passed : ArePassed (slice_index l.left) (slice_index l.exits.arcs) (slice_index l.kinds);
}

abbrev pub decreases-segments : goal.decreases-segments
decreases-segments l = sum_below 288 (slice_index l.left)
