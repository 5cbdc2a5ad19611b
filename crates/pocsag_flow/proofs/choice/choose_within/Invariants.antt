use Rattle.pocsag_flow.proofs.Prelude.{slice_index, overload, IsLoaded}
use Rattle.pocsag_flow.proofs.choice.choose_within.Given as goal

abbrev pub invariant-loop-slot : goal.invariant-loop-slot
invariant-loop-slot l = IsLoaded l.classes l.limits l.search.early l.counted

abbrev pub decreases-loop-slot : goal.decreases-loop-slot
decreases-loop-slot l = overload l.classes l.limits (slice_index l.search.early)
