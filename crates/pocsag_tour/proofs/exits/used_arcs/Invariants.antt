use Rattle.pocsag_tour.proofs.Prelude.{◌≤◌, length, slice_index, AreUsed}
use Rattle.pocsag_tour.proofs.exits.used_arcs.Given as goal

abbrev pub invariant-loop-arc : goal.invariant-loop-arc
invariant-loop-arc l = record {
  used : AreUsed (slice_index l.counts) l.arc l.used.items;
  few : length l.used.items ≤ l.arc;
}
