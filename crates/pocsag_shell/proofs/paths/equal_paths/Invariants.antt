use Rattle.pocsag_shell.proofs.Prelude.{ℕ, ◌<◌, map}
use Rattle.pocsag_shell.specs.Paths.{IsNamedBefore}
use Rattle.pocsag_shell.proofs.paths.equal_paths.Given as goal

-- none of the paths so far is named before
abbrev pub invariant-loop-place : goal.invariant-loop-place
invariant-loop-place l = (k : ℕ) → k < l.place → IsNamedBefore (map (λ path. path.now) l.paths) k → ⊥
