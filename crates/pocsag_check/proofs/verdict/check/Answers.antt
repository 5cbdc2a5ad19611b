use Rattle.pocsag_check.proofs.Prelude.{map}
use Rattle.pocsag_words.specs.Kinds.{kind_of}
use Rattle.pocsag_pages.proofs.GoodPages.{apart_pages}
use Rattle.pocsag_check.proofs.Bounds.{bounded}
use Rattle.pocsag_check.proofs.verdict.check.Goals as goal

pub returns-clause-bound : goal.returns-clause-bound
returns-clause-bound c = λ yes T n legal.
    let a = c.check_tree.ensures.0 yes in
    bounded a.table c.args.end c.args.round.now (map kind_of T) c.args.batches n _
    (apart_pages c.args.round.now c.recall_rules.ensures.good) a.counted a.accepted.root legal.1
