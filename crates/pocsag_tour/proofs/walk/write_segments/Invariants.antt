use Rattle.pocsag_tour.proofs.Prelude.{◌≡◌, ◌++◌, step_of, map, repeat}
use Rattle.pocsag_tour.proofs.walk.write_segments.Given as goal

abbrev pub invariant-segments : goal.invariant-segments
invariant-segments l = l.steps.items ≡ l.initial.steps.items ++ repeat l._segment (map step_of l.arcs)
