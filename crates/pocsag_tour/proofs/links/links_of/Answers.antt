use Rattle.pocsag_tour.proofs.Prelude.{slice_index, arith}
use Rattle.pocsag_tour.proofs.LinkLemmas.{idles_more}
use Rattle.pocsag_tour.proofs.links.links_of.Goals as goal

pub loop-slot-init : goal.loop-slot-init
loop-slot-init c = record {
  of_runs = record {
    long = c.run_links-links.ensures.length;
    linked = c.run_links-links.ensures.linked;
    runs = c.run_links-links.ensures.runs;
  };
  idles = λ s h. absurd (omega arith);
}

pub loop-slot-preserved : goal.loop-slot-preserved
loop-slot-preserved c =
    idles_more c.args.classes.now (slice_index c.args.choice.now.early) c.args.batches c.loop-slot.links c.link.new.links c.loop-slot.slot _
    (omega arith) (c.loads-used.ensures.loads c.loop-slot.slot (omega arith)) c.link.array_long c.link.ensures c.loop-slot.invariant
