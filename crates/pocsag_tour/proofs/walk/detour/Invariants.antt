use Rattle.pocsag_tour.proofs.Prelude.{slice_index, ArePassed, IsPassed}
use Rattle.pocsag_tour.proofs.walk.detour.Given as goal

abbrev pub invariant-loop-kind : goal.invariant-loop-kind
invariant-loop-kind l = record {
  passed : ArePassed (slice_index l.left) (slice_index l.exits) (slice_index l.kinds);
  here : IsPassed (slice_index l.left) l.exit l.boundary l.kind;
}
