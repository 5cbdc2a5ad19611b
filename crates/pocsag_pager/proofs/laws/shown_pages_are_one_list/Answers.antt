use Rattle.pocsag_pager.proofs.ShownPages.{one_list, shown_listable}
use Rattle.pocsag_pager.proofs.laws.shown_pages_are_one_list.Goals as goal

pub returns-clause-one : goal.returns-clause-one
returns-clause-one c = one_list

pub returns-clause-listable : goal.returns-clause-listable
returns-clause-listable c = shown_listable
