use Rattle.pocsag_pages.proofs.GoodPages.{apart_pages}
use Rattle.pocsag_pages.proofs.laws.rounds_are_apart.Goals as goal

pub returns : goal.returns
returns c = λ R r. apart_pages R r.good
