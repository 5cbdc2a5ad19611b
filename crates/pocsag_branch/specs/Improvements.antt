-- Where a step of the local search leads: to a choice that the limits admit.
use Rattle.std.specs.Prelude.{slice_index}
use Rattle.pocsag_slots.specs.declared.class.Classes.{Classes}
use Rattle.pocsag_slots.specs.declared.limit.Limits.{Limits}
use Rattle.pocsag_slots.specs.Loads.{IsAdmitted}
use Rattle.pocsag_branch.specs.declared.local_search.Improvement.{Improvement}
use Rattle.pocsag_branch.specs.declared.local_search.Improvement.TheVariants.{LocalOptimum, Connected, Cheaper}

abbrev pub IsImprovement : Classes → Limits → Improvement → Type 0
IsImprovement k l LocalOptimum = Unit {0}
IsImprovement k l (Connected choice) = IsAdmitted k l (slice_index choice.early)
IsImprovement k l (Cheaper at) = IsAdmitted k l (slice_index at.choice.early)
