use Rattle.pocsag_plan.proofs.Prelude.{refl}
use Rattle.pocsag_plan.proofs.Due.{all_as, certificate_part_as, file_headline, has_headline, part_as}
use Rattle.pocsag_plan.proofs.Unwritten.{its_own, limit_taken, plan_answered, plan_explained, sent_explained}
use Rattle.pocsag_plan.proofs.streams.bounded_stream.Goals as goal

pub returns-in-Err-bounded_plan-clause-explained : goal.returns-in-Err-bounded_plan-clause-explained
returns-in-Err-bounded_plan-clause-explained g c =
    let f = c.in-Err-bounded_plan.fault in
    let said = c.in-Err-bounded_plan.ensures in
    λ reads. plan_explained _ _ _ c.in-Ok.round _ f (c.in-Ok.ensures.ok reads) said.fault

pub returns-in-Err-bounded_plan-clause-answered : goal.returns-in-Err-bounded_plan-clause-answered
returns-in-Err-bounded_plan-clause-answered g c =
    let f = c.in-Err-bounded_plan.fault in
    let said = c.in-Err-bounded_plan.ensures in
    plan_answered _ _ _ _ f said.fault

pub send-requires : goal.send-requires
send-requires g c = its_own _ _ _ _ _ refl c.in-Ok-bounded_plan.ensures.plan.plan_of

pub returns-in-Ok-send-clause-headline : goal.returns-in-Ok-send-clause-headline
returns-in-Ok-send-clause-headline g c =
    let R = c.in-Ok.round in
    let bounded = c.in-Ok-bounded_plan.bounded in
    let is = c.in-Ok-bounded_plan.ensures.plan in
    λ reads tx_tells cert_tells.
    all_as _ _ (file_headline c.args.search R bounded is _ (c.in-Ok.ensures.ok reads)) _ _ _ _
    (c.in-Ok-send.ensures.whole tx_tells cert_tells)

pub returns-clause-explained : goal.returns-clause-explained
returns-clause-explained g c =
    let R = c.in-Ok.round in
    let e = c.in-Err-send.fault in
    let said = c.in-Err-send.ensures in
    let within = limit_taken _ c.args.search.limit c.if-not-is_node_limit.false c.is_node_limit.ensures in
    λ reads. sent_explained _ _ _ R _ e said.unsent within (c.in-Ok.ensures.ok reads)

pub returns-clause-part : goal.returns-clause-part
returns-clause-part g c =
    let R = c.in-Ok.round in
    let bounded = c.in-Ok-bounded_plan.bounded in
    let is = c.in-Ok-bounded_plan.ensures.plan in
    let said = c.in-Err-send.ensures in
    λ reads tx_tells failed. record {
      round = R;
      read = c.in-Ok.ensures.ok reads;
      holds = part_as _ _ (has_headline c.args.search R bounded is) _ _ (said.part tx_tells failed);
    }

pub returns-clause-certificate_part : goal.returns-clause-certificate_part
returns-clause-certificate_part g c =
    let R = c.in-Ok.round in
    let bounded = c.in-Ok-bounded_plan.bounded in
    let is = c.in-Ok-bounded_plan.ensures.plan in
    let said = c.in-Err-send.ensures in
    λ reads tx_tells cert_tells failed. record {
      round = R;
      read = c.in-Ok.ensures.ok reads;
      holds = certificate_part_as _ _ (has_headline c.args.search R bounded is) _ _ _ _ (said.certificate_part tx_tells cert_tells failed);
    }
