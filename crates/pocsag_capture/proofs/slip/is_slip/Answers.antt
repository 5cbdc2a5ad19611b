use Rattle.pocsag_capture.proofs.Prelude.{◌≡◌, ℕ, ◌+◌, ◌-◌, ◌*◌, refl, sym, subst, inl, inr, arith, cases_lt, capture_bits, IsBeside}
use Rattle.pocsag_capture.proofs.Counting.{not_false}
use Rattle.pocsag_capture.proofs.slip.is_slip.Goals as goal
use Rattle.pocsag_capture.proofs.slip.is_slip.Goals.{else-place-end-via-then-place-end+else-not-is_beside, else-place-end-via-else-place-end}

pub loop-place-preserved : goal.loop-place-preserved
loop-place-preserved c = λ place low below inside.
    elim (cases_lt place c.loop-place.place) [
      | inl less ↦ c.loop-place.invariant place low less inside
      | inr more ↦
          let same : place ≡ c.loop-place.place = omega arith in
          elim c.else-place-end.branch [
            | else-place-end-via-then-place-end+else-not-is_beside w ↦
                subst (λ (n : ℕ). IsBeside (capture_bits c.args.capture.now) c.args.reception.polarity c.args.step (c.args.reception.bit + 32 * (n - 1))) (sym same)
                (w.is_beside.ensures.0 (not_false w.is_beside.result (cc)))
            | else-place-end-via-else-place-end w ↦ absurd (omega (arith, w.if-place-end.false))
          ]
    ]

pub returns : goal.returns
returns c = (λ _. λ place low below inside. c.loop-place.invariant place low (omega arith) inside, λ _. refl)
