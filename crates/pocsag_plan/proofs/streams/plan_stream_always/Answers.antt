use Rattle.pocsag_plan.proofs.Prelude.{IfOk-weaker}
use Rattle.pocsag_plan.proofs.Due.{of_round_as, tight_stream}
use Rattle.pocsag_plan.proofs.streams.plan_stream_always.Goals as goal

pub returns-clause-fewest : goal.returns-clause-fewest
returns-clause-fewest g c = λ reads tx_tells cert_tells.
    IfOk-weaker c.bounded_stream.result _ _ (λ bounded is same. tight_stream _ _ _ _ _ _ _ _ _ same is)
    (c.bounded_stream.ensures.headline reads tx_tells cert_tells)

pub returns-clause-plan : goal.returns-clause-plan
returns-clause-plan g c = λ reads.
    IfOk-weaker c.bounded_stream.result _ _ (λ bounded is. of_round_as _ _ _ (λ round it. it.plan_of) is) (c.bounded_stream.ensures.plan reads)

pub returns-clause-no_worse : goal.returns-clause-no_worse
returns-clause-no_worse g c = λ reads.
    IfOk-weaker c.bounded_stream.result _ _ (λ bounded is. of_round_as _ _ _ (λ round it. it.no_worse) is) (c.bounded_stream.ensures.plan reads)
