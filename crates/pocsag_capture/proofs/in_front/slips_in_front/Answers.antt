use Rattle.pocsag_capture.proofs.Prelude.{◌≡◌, ℕ, ◌+◌, ◌-◌, ◌*◌, refl, subst, inl, inr, arith, cases_lt, capture_bits, IsBeside}
use Rattle.pocsag_capture.proofs.in_front.slips_in_front.Goals as goal

pub loop-nth-preserved : goal.loop-nth-preserved
loop-nth-preserved c = λ nth some below room beside.
    elim (cases_lt nth c.loop-nth.nth) [
      | inl less ↦ c.loop-nth.invariant nth some less room beside
      | inr more ↦
          let same : c.args.run.bit - 32 * (nth + 1) ≡ c.args.run.bit - 32 * (c.loop-nth.nth + 1) = omega arith in
          elim beside [
            | inl early ↦
                let is = c.is_beside-is_early.ensures.1 (subst (λ (n : ℕ). IsBeside (capture_bits c.args.capture.now) c.args.run.polarity 31 n) same early) in absurd (cc)
            | inr late ↦
                let is = c.is_beside-is_late.ensures.1 (subst (λ (n : ℕ). IsBeside (capture_bits c.args.capture.now) c.args.run.polarity 33 n) same late) in absurd (cc)
          ]
    ]

pub returns-then-is_early : goal.returns-then-is_early
returns-then-is_early c = (
  λ _. record { nth = c.loop-nth.nth; first = omega arith; last = omega arith; room = omega arith; beside = inl (c.is_beside-is_early.ensures.0 c.if-is_early.true) },
  λ _. refl,
)

pub returns-then-is_late : goal.returns-then-is_late
returns-then-is_late c = (
  λ _. record { nth = c.loop-nth.nth; first = omega arith; last = omega arith; room = omega arith; beside = inr (c.is_beside-is_late.ensures.0 c.if-is_late.true) },
  λ _. refl,
)

pub returns-then-run-back : goal.returns-then-run-back
returns-then-run-back c = (
  λ wrong. absurd (cc wrong),
  λ slips. absurd (c.loop-nth.invariant slips.nth slips.first (omega (arith, slips.room)) slips.room slips.beside),
)

pub returns : goal.returns
returns c = (
  λ wrong. absurd (cc wrong),
  λ slips. absurd (c.loop-nth.invariant slips.nth slips.first (omega (arith, slips.last)) slips.room slips.beside),
)
