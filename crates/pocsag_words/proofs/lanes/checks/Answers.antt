use Rattle.pocsag_words.proofs.Prelude.{moved, pair_of, spread_of, three_of, product_of, checks_of}
use Rattle.pocsag_words.proofs.LaneLemmas.{eight_lanes, turned}
use Rattle.pocsag_words.proofs.lanes.checks.Goals as goal

pub returns : goal.returns
unfolding moved pair_of spread_of three_of product_of checks_of
returns c =
    let lanes = eight_lanes c.args.numbers c.requires in
    rw (lanes.is) (simp turned)
