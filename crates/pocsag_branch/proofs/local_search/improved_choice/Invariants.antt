use Rattle.pocsag_branch.proofs.Prelude.{slice_index, IsAdmitted}
use Rattle.pocsag_branch.proofs.local_search.improved_choice.Given as goal

abbrev pub invariant-loop : goal.invariant-loop
invariant-loop l = IsAdmitted l.node.classes.now l.node.limits (slice_index l.at.choice.early)
