use Rattle.pocsag_capture.proofs.Prelude.{◌≡◌, ℕ, refl, subst, inl, inr, arith, cases_lt, capture_bits, IsSlip}
use Rattle.pocsag_capture.proofs.slip.has_slipped.Goals as goal

pub loop-place-preserved : goal.loop-place-preserved
loop-place-preserved c = λ place low below slip.
    elim (cases_lt place c.loop-place.place) [
      | inl less ↦ c.loop-place.invariant place low less slip
      | inr more ↦
          let same : place ≡ c.loop-place.place = omega arith in
          elim slip [
            | inl early ↦
                let is = c.is_slip-is_early.ensures.1 (subst (λ (n : ℕ). IsSlip (capture_bits c.args.capture.now) c.args.reception 31 n) same early) in absurd (cc)
            | inr late ↦
                let is = c.is_slip-is_late.ensures.1 (subst (λ (n : ℕ). IsSlip (capture_bits c.args.capture.now) c.args.reception 33 n) same late) in absurd (cc)
          ]
    ]

pub returns-then-is_early : goal.returns-then-is_early
returns-then-is_early c = (
  λ _. record { first = c.loop-place.place; last = omega arith; two = omega arith; beside = inl (c.is_slip-is_early.ensures.0 c.if-is_early.true) },
  λ _. refl,
)

pub returns-then-is_late : goal.returns-then-is_late
returns-then-is_late c = (
  λ _. record { first = c.loop-place.place; last = omega arith; two = omega arith; beside = inr (c.is_slip-is_late.ensures.0 c.if-is_late.true) },
  λ _. refl,
)

pub returns : goal.returns
returns c = (
  λ wrong. absurd (cc wrong),
  λ slipped. absurd (c.loop-place.invariant slipped.first (omega (arith, slipped.last, slipped.two))
      (omega (arith, slipped.two)) slipped.beside),
)
