use Rattle.pocsag_tour.proofs.Prelude.{◌≡◌, ◌^◌, ◌≤◌, slice_index, sum_below, ◌*◌}
use Rattle.pocsag_tour.proofs.counts.steps_over.Given as goal

abbrev pub invariant-loop-arc : goal.invariant-loop-arc
invariant-loop-arc l = record { sum : l.steps ≡ sum_below l.arc (slice_index l.counts); few : l.steps ≤ l.arc * 2 ^ 32 }
