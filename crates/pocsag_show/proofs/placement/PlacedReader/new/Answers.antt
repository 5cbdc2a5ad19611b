use Rattle.pocsag_show.proofs.Prelude.{sym, subst, All, IsListable, pages_left, kinds_ahead, starts_ahead, number_below}
use Rattle.pocsag_show.proofs.PlacedReaders.{all_placed, listable_placed}
use Rattle.pocsag_show.proofs.placement.PlacedReader.new.Goals as goal

pub returns-clause-left : goal.returns-clause-left
returns-clause-left c = λ ps reading numbers.
    all_placed c.args.bytes.now ps reading c.args.numbers.now numbers c.new-2.result.index (kinds_ahead c.new-2.result) (pages_left c.new.result)
    c.new-2.ensures.first c.new-2.ensures.kinds (c.new.ensures.left ps reading)

pub returns-clause-listable : goal.returns-clause-listable
returns-clause-listable c = λ ps reading.
    listable_placed (number_below c.args.numbers.now) (starts_ahead c.new-2.result) (pages_left c.new.result)
    (subst (All IsListable) (sym (c.new.ensures.left ps reading)) (c.new.ensures.listable ps reading))
