use Rattle.pocsag_tour.proofs.Prelude.{slice_index}
use Rattle.pocsag_tour.proofs.Tours.{closing_idle, closing_late, idle_is_last, late_is_last}
use Rattle.pocsag_tour.proofs.route.closing.Goals as goal

pub returns-then-counts-gt0-clause-found : goal.returns-then-counts-gt0-clause-found
returns-then-counts-gt0-clause-found c = (closing_idle (slice_index c.args.counts.now) c.if-counts-gt0.true, idle_is_last c.args.end)

pub returns-in-Closed-clause-found : goal.returns-in-Closed-clause-found
returns-in-Closed-clause-found c = (closing_late (slice_index c.args.counts.now) c.if-counts-gt0-2.true, rw c.in-Closed.is late_is_last)
