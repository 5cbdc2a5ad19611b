use Rattle.pocsag_c.proofs.Prelude.{refl}
use Rattle.pocsag_c.proofs.Fronts.{told}
use Rattle.pocsag_c.proofs.plan.pocsag_plan.Goals as goal

pub returns-in-Ok-clause-no_worse : goal.returns-in-Ok-clause-no_worse
returns-in-Ok-clause-no_worse c = λ _. record {
  search = c.in-Some.search;
  asked = c.in-Some.ensures.asked;
  holds = (c.in-Ok.texts.bounded, refl, refl, c.in-Ok.ensures.no_worse);
}

pub returns-in-Err-clause-fault : goal.returns-in-Err-clause-fault
returns-in-Err-clause-fault c = λ _.
    told _ _ c.in-Err.fault c.refused_stream.result _ _
    (record { search = c.in-Some.search; asked = c.in-Some.ensures.asked; holds = c.in-Err.ensures.explained })
    c.refused_stream.ensures.value c.put.ensures.status c.put.ensures.place
