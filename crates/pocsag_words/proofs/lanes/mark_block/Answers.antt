use Rattle.pocsag_words.proofs.Prelude.{◌+◌, arith}
use Rattle.pocsag_words.proofs.CheckLemmas.{checks_test}
use Rattle.pocsag_words.proofs.LaneLemmas.{TellFirst-set, lane_at}
use Rattle.pocsag_words.proofs.lanes.mark_block.Goals as goal

pub loop-i-preserved : goal.loop-i-preserved
loop-i-preserved c =
    TellFirst-set _ _ _ _ _ (omega arith) (omega arith) c.loop-i.invariant
    (checks_test _ _ ((c.type_inv.numbers (c.args.start + c.loop-i.i)).fits) (lane_at _ _ _ _ c.loop-i.i c.checks.ensures c.requires.room c.loop-i-test.true))
