use Rattle.pocsag_capture.proofs.Prelude.{arith}
use Rattle.pocsag_capture.proofs.Polarities.{both_polarities, is_inverted, is_neither, is_upright}
use Rattle.pocsag_capture.proofs.polarity.polarity_of.Goals as goal

pub returns-then-wrong-le-NEAR_BITS-clause-only : goal.returns-then-wrong-le-NEAR_BITS-clause-only
returns-then-wrong-le-NEAR_BITS-clause-only c = is_upright c.args.word (omega arith) c.if-wrong-le-NEAR_BITS.true

pub returns-then-wrong-clause-near : goal.returns-then-wrong-clause-near
returns-then-wrong-clause-near c = omega (arith, both_polarities c.args.word (omega arith))

pub returns-then-wrong-clause-only : goal.returns-then-wrong-clause-only
returns-then-wrong-clause-only c = is_inverted c.args.word (omega arith) (omega (arith, both_polarities c.args.word (omega arith)))

pub returns-clause-only : goal.returns-clause-only
returns-clause-only c = λ polarity near. absurd (is_neither c.args.word (omega arith) c.if-wrong-le-NEAR_BITS.false c.if-wrong.false polarity near)
