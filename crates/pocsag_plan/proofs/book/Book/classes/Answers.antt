use Rattle.pocsag_plan.proofs.Prelude.{values_of}
use Rattle.pocsag_plan.proofs.Tallies.{open_or_idle}
use Rattle.pocsag_plan.proofs.book.Book.classes.Goals as goal

pub returns-in-Open : goal.returns-in-Open
returns-in-Open c =
    open_or_idle c.self.inside.for_open c.args.end (values_of c.self.inside.pages.entries) c.args.self.now c.in-Open.is c.self.view_is
    c.self.invariant.counted
