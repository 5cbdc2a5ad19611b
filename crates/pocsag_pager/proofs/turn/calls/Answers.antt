use Rattle.pocsag_pager.proofs.Deaf.{other_high}
use Rattle.pocsag_pager.proofs.turn.calls.Goals as goal

pub returns-in-Some : goal.returns-in-Some
returns-in-Some c = other_high c.args.address c.args.word c.in-Some.mended c.raw.result c.in-Some.ensures c.raw.ensures.same
