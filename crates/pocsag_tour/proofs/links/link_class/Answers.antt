use Rattle.pocsag_tour.proofs.Prelude.{◌+◌, slice_index, arith}
use Rattle.pocsag_tour.proofs.LinkLemmas.{AreLinks, link_at, runs_more, runs_none}
use Rattle.pocsag_tour.proofs.links.link_class.Goals as goal

more : (c : goal.After-link-2) → AreLinks c.args.classes.now (slice_index c.args.choice.now.early) c.args.batches c.link-2.new.links
    (c.args.class.number + 1)
more c =
    runs_more c.args.classes.now (slice_index c.args.choice.now.early) c.args.batches
    c.args.links.now c.link.new.links c.link-2.new.links c.args.class.number c.run_count-early.result c.run_count-late.result
    c.args.class.known c.run_count-early.ensures c.run_count-late.ensures c.link-2.array_long
    (link_at _ _ _ _ _ _ _ c.start.ensures.value c.finish.ensures.value c.link.ensures)
    (link_at _ _ _ _ _ _ _ c.start-2.ensures.value c.finish-2.ensures.value c.link-2.ensures)
    (record { long = c.told-links; linked = c.requires.linked; runs = c.requires.runs })

pub returns-clause-linked : goal.returns-clause-linked
returns-clause-linked c = (more c).linked

pub returns-clause-runs : goal.returns-clause-runs
returns-clause-runs c = (more c).runs

pub returns-then-classes-class-eq0-clause-runs : goal.returns-then-classes-class-eq0-clause-runs
returns-then-classes-class-eq0-clause-runs c =
    runs_none c.args.classes.now (slice_index c.args.choice.now.early) (slice_index c.args.links.now) c.args.class.number (omega arith)
    (c.requires.chosen c.args.class.number c.args.class.known) c.requires.runs
