use Rattle.pocsag_branch.proofs.Prelude.{◌≡◌, length}
use Rattle.pocsag_branch.proofs.smaller_cuts.set_with.Given as goal

abbrev pub invariant-loop-other : goal.invariant-loop-other
invariant-loop-other l = length l.into ≡ 16
