use Rattle.pocsag_open.proofs.Prelude.{arith}
use Rattle.std.proofs.lemmas.Bool.Decides.{nat_tests}
use Rattle.pocsag_open.proofs.ReadJournals.{torn_line}
use Rattle.pocsag_open.proofs.kept_streams.print_torn.Goals as goal

pub returns-clause-printed : goal.returns-clause-printed
returns-clause-printed g c = λ known.
    rw (torn_line c.args.line c.args.torn (grind (arith, nat_tests, c.if-torn-eq0.false)), ← c.end.ensures) (c.print_numbers.ensures.delivers known).0
