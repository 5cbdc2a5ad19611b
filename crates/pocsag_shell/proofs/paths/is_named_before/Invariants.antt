use Rattle.pocsag_shell.proofs.Prelude.{◌≡◌, ℕ, ◌<◌, [], map, get_or}
use Rattle.pocsag_shell.proofs.paths.is_named_before.Given as goal

-- none of the paths so far
abbrev pub invariant-loop-earlier : goal.invariant-loop-earlier
invariant-loop-earlier l =
    (k : ℕ) → k < l.earlier → get_or (map (λ path. path.now) l.paths) k [] ≡ get_or (map (λ path. path.now) l.paths) l.place [] → ⊥
