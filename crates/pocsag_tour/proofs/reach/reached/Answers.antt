use Rattle.pocsag_tour.proofs.Prelude.{slice_index}
use Rattle.pocsag_tour.proofs.LinkLemmas.{all_reached}
use Rattle.pocsag_tour.proofs.Tours.{no_idle_crosses, no_run_crosses}
use Rattle.pocsag_tour.proofs.reach.reached.Goals as goal

exact : goal.returns-clause-exact
exact c =
    all_reached c.args.classes.now (slice_index c.args.choice.now.early) c.args.batches (slice_index c.links_of.result) c.led_from_0.result
    c.links_of.ensures.linked c.links_of.ensures.runs c.links_of.ensures.idles
    c.led_from_0.ensures.start c.led_from_0.ensures.closed c.led_from_0.ensures.led

pub returns-clause-exact : goal.returns-clause-exact
returns-clause-exact c = exact c

pub returns-clause-no_run : goal.returns-clause-no_run
returns-clause-no_run c within =
    no_run_crosses c.args.classes.now (slice_index c.args.choice.now.early) c.args.batches c.led_from_0.result within (exact c)

pub returns-clause-no_idle : goal.returns-clause-no_idle
returns-clause-no_idle c within =
    no_idle_crosses c.args.classes.now (slice_index c.args.choice.now.early) c.args.batches c.led_from_0.result within (exact c)
