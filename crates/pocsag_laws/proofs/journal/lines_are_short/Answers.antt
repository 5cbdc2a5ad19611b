use Rattle.pocsag_laws.proofs.Prelude.{line_length}
use Rattle.pocsag_laws.proofs.journal.lines_are_short.Goals as goal

pub returns : goal.returns
returns c = line_length
