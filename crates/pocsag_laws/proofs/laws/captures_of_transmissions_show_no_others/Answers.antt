use Rattle.pocsag_laws.proofs.OnlySent.{holds_just_these, shows_no_others}
use Rattle.pocsag_laws.proofs.laws.captures_of_transmissions_show_no_others.Goals as goal

pub returns-clause-receptions : goal.returns-clause-receptions
returns-clause-receptions c = holds_just_these

pub returns-clause-pages : goal.returns-clause-pages
returns-clause-pages c = shows_no_others
