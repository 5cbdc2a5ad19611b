use Rattle.pocsag_laws.proofs.Prelude.{captured_shown, reading_captured}
use Rattle.pocsag_laws.proofs.captures.captured_pages_are_shown.Goals as goal

pub returns-clause-shown : goal.returns-clause-shown
returns-clause-shown c = captured_shown

pub returns-clause-readings : goal.returns-clause-readings
returns-clause-readings c = reading_captured
