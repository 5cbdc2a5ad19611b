use Rattle.pocsag_laws.proofs.Prelude.{transmissions_are_captured_lem, cuts_are_counted, uncut_pages_stand}
use Rattle.pocsag_laws.proofs.captures.transmissions_are_captured.Goals as goal

pub returns-clause-captured : goal.returns-clause-captured
returns-clause-captured c = transmissions_are_captured_lem

pub returns-clause-cut : goal.returns-clause-cut
returns-clause-cut c = cuts_are_counted

pub returns-clause-whole : goal.returns-clause-whole
returns-clause-whole c = uncut_pages_stand
