use Rattle.pocsag_laws.proofs.ListedWhole.{lists_as_whole}
use Rattle.pocsag_laws.proofs.captures.captures_list_what_was_sent_as_whole.Goals as goal

pub returns : goal.returns
returns c = lists_as_whole
