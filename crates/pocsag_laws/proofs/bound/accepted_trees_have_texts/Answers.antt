use Rattle.pocsag_check.proofs.Spelled.{accepted_closed, accepted_text}
use Rattle.pocsag_laws.proofs.bound.accepted_trees_have_texts.Goals as goal

pub returns-clause-text : goal.returns-clause-text
returns-clause-text c = accepted_text

pub returns-clause-closed : goal.returns-clause-closed
returns-clause-closed c = accepted_closed
