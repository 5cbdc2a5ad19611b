use Rattle.pocsag_centre.proofs.Prelude.{apart_pages}
use Rattle.pocsag_centre.proofs.SentMarks.{marked, unmarked}
use Rattle.pocsag_centre.proofs.sent_marks.mark_sent.Goals as goal

pub returns-in_default-clause-marked : goal.returns-in_default-clause-marked
returns-in_default-clause-marked c = λ sent so_far.
    unmarked c.args.round.now sent c.args.marks.now.items c.args.page.now c.in_default.ensures so_far

pub returns-clause-marked : goal.returns-clause-marked
returns-clause-marked c = λ sent so_far.
    marked c.args.round.now sent c.args.marks.now.items c.args.page.now c.in-Some.place (apart_pages c.args.round.now c.requires.round.good)
    c.in-Some.ensures.0 c.in-Some.ensures.1 so_far
