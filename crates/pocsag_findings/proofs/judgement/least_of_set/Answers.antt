use Rattle.pocsag_findings.proofs.Leasts.{one_least}
use Rattle.pocsag_slots.proofs.LeastLemmas.{least_is}
use Rattle.pocsag_findings.proofs.judgement.least_of_set.Goals as goal

pub returns : goal.returns
returns c =
    one_least c.args.classes.now c.args.limits.now c.args.set _ _ c.least_load.ensures.least
    (least_is c.args.classes.now c.args.limits.now c.args.set c.requires)
