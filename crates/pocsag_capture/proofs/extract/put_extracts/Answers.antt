use Rattle.pocsag_capture.proofs.Prelude.{rules, take_more, capture_bits}
use Rattle.pocsag_capture.proofs.Extracts.{extracts_more}
use Rattle.pocsag_capture.proofs.extract.put_extracts.Goals as goal

pub loop-reception-preserved : goal.loop-reception-preserved
loop-reception-preserved c =
    extracts_more (capture_bits c.args.capture.now) _ _ _ c.push.new.self.items c.in_ok-put_extract.field-0 c.args.bytes.now.items c.loop-reception.bytes.items
    c.put_extract.new.bytes.items c.loop-reception.invariant c.in_ok-put_extract.ensures.extracted c.in_ok-push.ensures.items
    (rw c.in_ok-put_extract.ensures.same (search (rules, take_more)))
