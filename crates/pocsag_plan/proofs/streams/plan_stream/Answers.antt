use Rattle.pocsag_plan.proofs.Prelude.{refl}
use Rattle.pocsag_plan.proofs.Due.{of_round_as, tight_plan, tight_stream}
use Rattle.pocsag_plan.proofs.streams.plan_stream.Goals as goal

pub returns-in-Ok-clause-headline : goal.returns-in-Ok-clause-headline
returns-in-Ok-clause-headline g c = λ reads tx_tells cert_tells.
    tight_stream _ _ _ _ _ _ _ _ _ ((c.in-Ok.ensures.plan reads).holds.fewest refl) (c.in-Ok.ensures.headline reads tx_tells cert_tells)

pub returns-in-Ok-clause-plan : goal.returns-in-Ok-clause-plan
returns-in-Ok-clause-plan g c = λ reads. of_round_as _ _ _ (λ round is. tight_plan _ round _ refl is) (c.in-Ok.ensures.plan reads)
