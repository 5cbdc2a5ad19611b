use Rattle.pocsag_tour.proofs.Prelude.{◌≡◌, ℕ, ◌<◌, true, slice_index, holds, arc_from, arc_to}
use Rattle.pocsag_tour.proofs.exits.entering.Given as goal

abbrev pub invariant-loop-arc : goal.invariant-loop-arc
invariant-loop-arc l =
    (k : ℕ) → k < l.arc-index → holds l.set (arc_to (slice_index l.used k)) ≡ true → holds l.set (arc_from (slice_index l.used k)) ≡ true
