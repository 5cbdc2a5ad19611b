use Rattle.pocsag_tour.proofs.Prelude.{◌≤◌, slice_index}
use Rattle.pocsag_tour.proofs.LinkLemmas.{IsGrown}
use Rattle.pocsag_tour.proofs.links.followed.Given as goal

abbrev pub invariant-loop-boundary : goal.invariant-loop-boundary
invariant-loop-boundary l = record { grown : IsGrown (slice_index l.links) l.set l.grown l.boundary; more : l.set ≤ l.grown }
