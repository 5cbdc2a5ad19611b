use Rattle.pocsag_tour.proofs.Prelude.{slice_index}
use Rattle.pocsag_tour.proofs.LinkLemmas.{AreLinks}
use Rattle.pocsag_tour.proofs.links.run_links.Given as goal

abbrev pub invariant-loop-number : goal.invariant-loop-number
invariant-loop-number l = AreLinks l.classes (slice_index l.choice.early) l.batches l.links l.number
