use Rattle.pocsag_plan.proofs.Due.{due, has_places}
use Rattle.pocsag_plan.proofs.streams.send.Goals as goal

pub new-slots-requires : goal.new-slots-requires
new-slots-requires g c = has_places c.args.round.now c.args.bounded.now c.requires _ _ c.deref.ensures.value c.deref-2.ensures.value

pub returns-in_default-clause-part : goal.returns-in_default-clause-part
returns-in_default-clause-part g c = λ is_known _.
    let sent = c.in_default.ensures.part is_known in
    record {
      sent = _;
      certificate = _;
      headline = due c.args.round.now c.args.bounded.now c.requires _ _ _ sent.words c.deref.ensures.value c.deref-2.ensures.value
          c.new-slots.ensures sent.say;
      part = sent.part;
    }

pub returns-in-Ok-write_text-clause-whole : goal.returns-in-Ok-write_text-clause-whole
returns-in-Ok-write_text-clause-whole g c = λ is_known cert_tells.
    let sent = c.in-Ok.ensures.whole is_known in
    record {
      sent = _;
      certificate = _;
      headline = due c.args.round.now c.args.bounded.now c.requires _ _ _ sent.words c.deref.ensures.value c.deref-2.ensures.value
          c.new-slots.ensures sent.say;
      transmission = sent.taken;
      text = (c.in-Ok-write_text.ensures.delivers cert_tells).0;
    }

pub returns-in-Err-clause-certificate_part : goal.returns-in-Err-clause-certificate_part
returns-in-Err-clause-certificate_part g c = λ is_known cert_tells _.
    let sent = c.in-Ok.ensures.whole is_known in
    record {
      sent = _;
      certificate = _;
      headline = due c.args.round.now c.args.bounded.now c.requires _ _ _ sent.words c.deref.ensures.value c.deref-2.ensures.value
          c.new-slots.ensures sent.say;
      transmission = sent.taken;
      part = (c.in-Err.ensures.delivers cert_tells).1;
    }
