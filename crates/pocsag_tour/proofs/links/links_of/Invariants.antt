use Rattle.pocsag_tour.proofs.Prelude.{slice_index}
use Rattle.pocsag_tour.proofs.LinkLemmas.{WithIdles}
use Rattle.pocsag_tour.proofs.links.links_of.Given as goal

abbrev pub invariant-loop-slot : goal.invariant-loop-slot
invariant-loop-slot l = WithIdles l.classes (slice_index l.choice.early) l.batches l.links l.slot
