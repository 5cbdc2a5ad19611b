use Rattle.pocsag_branch.proofs.Prelude.{◌≡◌, length}
use Rattle.pocsag_branch.proofs.usable_ways.usable_ways.Given as goal

abbrev pub invariant-loop-class : goal.invariant-loop-class
invariant-loop-class l = (length l.early ≡ 136) × (length l.late ≡ 136)
