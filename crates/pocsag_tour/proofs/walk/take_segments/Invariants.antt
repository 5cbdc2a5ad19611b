use Rattle.pocsag_tour.proofs.Prelude.{slice_index, take, AreTaken}
use Rattle.pocsag_tour.proofs.walk.take_segments.Given as goal

abbrev pub invariant-loop-arc : goal.invariant-loop-arc
invariant-loop-arc l = AreTaken l.times (take l.arc-index l.arcs) (slice_index l.initial.left) (slice_index l.left)
