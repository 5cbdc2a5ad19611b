use Rattle.pocsag_tour.proofs.Prelude.{refl, slice_index, sixteen_zeros}
use Rattle.pocsag_tour.proofs.LinkLemmas.{no_links}
use Rattle.pocsag_tour.proofs.links.run_links.Goals as goal

pub loop-number-init : goal.loop-number-init
loop-number-init c = no_links c.args.classes.now (slice_index c.args.choice.now.early) c.args.batches _ refl sixteen_zeros

pub loop-number-preserved : goal.loop-number-preserved
loop-number-preserved c =
    record { long = c.link_class.array_long; linked = c.link_class.ensures.linked; runs = c.link_class.ensures.runs }
