use Rattle.pocsag_capture.proofs.Prelude.{ℕ, ◌-◌, subst, refl, arith, capture_bits, IsQuiet, behind}
use Rattle.pocsag_capture.proofs.SearchLemmas.{alone_more, alone_to}
use Rattle.pocsag_capture.proofs.Windows.{bits_long}
use Rattle.pocsag_capture.proofs.search.has_other_sync.Goals as goal

pub is_before_idle-requires-clause-bit : goal.is_before_idle-requires-clause-bit
is_before_idle-requires-clause-bit c = omega (arith, c.in-Some.ensures.there.within, bits_long c.args.capture.now)

pub loop-place-preserved : goal.loop-place-preserved
loop-place-preserved c =
    let bits = capture_bits c.args.capture.now in
    record {
      later = omega (arith, c.in-Some.ensures.later);
      small = omega (arith, c.in-Some.ensures.there.within, bits_long c.args.capture.now);
      alone = alone_more bits c.args.reception (behind c.args.reception - 543) c.loop-place.first c.in-Some.place.bit c.loop-place.invariant.alone
          c.in-Some.ensures.quiet (c.is_before_idle.ensures.0 c.if-not-is_before_idle.false);
    }

pub returns : goal.returns
returns c =
    let bits = capture_bits c.args.capture.now in
    let quiet = subst (λ (n : ℕ). IsQuiet bits c.loop-place.first n) (omega arith) c.in_default.ensures.none in
    (λ e. cc e, λ other. absurd (alone_to bits c.args.reception _ c.loop-place.first c.loop-place.invariant.alone quiet refl other))
