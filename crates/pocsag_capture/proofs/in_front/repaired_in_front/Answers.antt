use Rattle.pocsag_capture.proofs.Prelude.{◌+◌, ◌∙◌, ap, refl, arith, bit_xor, count_ones, ℕ, capture_bits}
use Rattle.pocsag_capture.proofs.InFront.{front_none, front_one_more}
use Rattle.pocsag_capture.proofs.in_front.repaired_in_front.Goals as goal

pub loop-front_count-init : goal.loop-front_count-init
loop-front_count-init c = front_none (capture_bits c.args.capture.now) c.args.held c.args.run.polarity c.args.run.bit

pub loop-front_count-preserved : goal.loop-front_count-preserved
loop-front_count-preserved c =
    front_one_more (capture_bits c.args.capture.now) c.args.held c.args.run.polarity c.args.run.bit c.loop-front_count.front_count c.loop-front_count.front_errors
    (c.loop-front_count.front_count + 1) c.sent_at-word.result c.in-Some.mended _ c.loop-front_count.invariant (omega arith) c.sent_at-word.ensures c.in-Some.ensures
    (ap (λ (n : ℕ). c.loop-front_count.front_errors + n) (c.from-front_errors.ensures ∙ ap (λ (n : ℕ). count_ones (bit_xor n c.sent_at-word.result)) c.raw.ensures.same)) refl
