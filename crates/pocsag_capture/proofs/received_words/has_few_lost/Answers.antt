use Rattle.pocsag_capture.proofs.Prelude.{◌≡◌, ℕ, ◌+◌, ◌-◌, sym, subst, arith, le-leb, capture_bits, leb-true}
use Rattle.pocsag_capture.proofs.Counting.{IsCounting, counting_kept, counting_lost, few_counted}
use Rattle.pocsag_capture.proofs.received_words.has_few_lost.Goals as goal
use Rattle.pocsag_capture.proofs.received_words.has_few_lost.Goals.{then-is_lost, else-is_lost}

pub loop-place-preserved : goal.loop-place-preserved
loop-place-preserved c =
    let bits = capture_bits c.args.capture.now in
    elim c.if-is_lost.branch [
      | then-is_lost w ↦ record {
        few = omega (arith, w.lost-is);
        counted = subst (λ (n : ℕ). IsCounting bits c.args.run (c.loop-place.place + 1 - 1) n) (sym w.lost-is)
            (counting_lost bits c.args.run c.loop-place.place c.loop-place.lost c.sent_at.result (omega arith) c.sent_at.ensures
            (c.is_lost.ensures.0 (cc)) c.loop-place.invariant.counted);
      }
      | else-is_lost w ↦ record {
        few = omega (arith, w.lost-is);
        counted = subst (λ (n : ℕ). IsCounting bits c.args.run (c.loop-place.place + 1 - 1) n) (sym w.lost-is)
            (counting_kept bits c.args.run c.loop-place.place c.loop-place.lost c.sent_at.result (omega arith) (omega arith) c.sent_at.ensures
            (λ far. let is = c.is_lost.ensures.1 far in absurd (cc)) c.loop-place.invariant.counted);
      }
    ]

pub returns : goal.returns
returns c =
    let bits = capture_bits c.args.capture.now in
    let all : c.loop-place.place - 1 ≡ 16 = omega arith in
    let f = few_counted bits c.args.run c.loop-place.lost (subst (λ (n : ℕ). IsCounting bits c.args.run n c.loop-place.lost) all c.loop-place.invariant.counted) in
    (λ is. f.0 (leb-true _ _ is), λ h. le-leb _ _ (f.1 h))
