use Rattle.pocsag_laws.proofs.Prelude.{shows_what_was_sent}
use Rattle.pocsag_laws.proofs.captures.captures_show_what_was_sent.Goals as goal

pub returns : goal.returns
returns c = shows_what_was_sent
