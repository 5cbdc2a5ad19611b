use Rattle.pocsag_branch.proofs.Prelude.{◌<◌, IfSome}
use Rattle.pocsag_branch.proofs.smaller_cuts.nearest.Given as goal

abbrev pub invariant-loop-boundary : goal.invariant-loop-boundary
invariant-loop-boundary l = IfSome l.best (λ boundary. boundary < 16)
