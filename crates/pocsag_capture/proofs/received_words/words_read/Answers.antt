use Rattle.pocsag_capture.proofs.Prelude.{◌≡◌, ℕ, refl, subst, inl, inr, arith, cases_lt, capture_bits, IsBreak}
use Rattle.pocsag_capture.proofs.received_words.words_read.Goals as goal

pub loop-place-preserved : goal.loop-place-preserved
loop-place-preserved c = λ place below broken.
    elim (cases_lt place c.loop-place.place) [
      | inl less ↦ c.loop-place.invariant place less broken
      | inr more ↦
          let same : place ≡ c.loop-place.place = omega arith in
          let here = c.is_break.ensures.1
          (subst (λ (n : ℕ). IsBreak (capture_bits c.args.capture.now) c.args.run.polarity c.args.run.bit c.args.run.batches n) same broken) in
          absurd (cc)
    ]

pub returns : goal.returns
returns c = record { most = omega arith; unbroken = λ place below. c.loop-place.invariant place (omega arith); ends = inl refl }
