use Rattle.pocsag_tour.proofs.Prelude.{rules, AsksForLast, arith, slice_index, set_taking}
use Rattle.std.proofs.lemmas.Result.{err_from_is_err_and}
use Rattle.pocsag_tour.proofs.Existence.{closing_way_exists, open_way_exists, way_exists}
use Rattle.pocsag_tour.proofs.route.way.Goals as goal

pub returns-in_err-walk-clause-refused : goal.returns-in_err-walk-clause-refused
returns-in_err-walk-clause-refused c =
    let told = err_from_is_err_and c.from_residual.result c.from_residual.ensures.1 in
    rw (told.1, told.2, c.in-Open.is)
    (open_way_exists set_taking (slice_index c.args.counts.now) c.requires.balanced c.requires.joined)

pub returns-in-None-clause-refused : goal.returns-in-None-clause-refused
returns-in-None-clause-refused c =
    let asks : AsksForLast c.args.end = search rules in (
      asks,
      c.in-None.ensures.none.0,
      c.in-None.ensures.none.1,
      way_exists set_taking (slice_index c.args.counts.now) 0 (omega arith) c.requires.balanced c.requires.joined,
    )

pub returns-in_err-way_with_last-in-Some-clause-refused : goal.returns-in_err-way_with_last-in-Some-clause-refused
returns-in_err-way_with_last-in-Some-clause-refused c =
    let told = err_from_is_err_and c.from_residual-in_err-way_with_last-in-Some.result c.from_residual-in_err-way_with_last-in-Some.ensures.1 in
    rw (told.1, told.2)
    (closing_way_exists set_taking (slice_index c.args.counts.now) c.args.end c.in-Some.last
    c.in-Some.ensures.found.0 c.in-Some.ensures.found.1
    c.requires.balanced c.requires.joined)
