use Rattle.pocsag_capture.proofs.Prelude.{◌≡◌, ℕ, ◌+◌, ◌-◌, ◌*◌, subst, arith, capture_bits, Steps}
use Rattle.pocsag_capture.proofs.SearchLemmas.{chain_ends, chain_first, chain_on}
use Rattle.pocsag_capture.proofs.Windows.{bits_long}
use Rattle.pocsag_capture.proofs.search.run_of.Goals as goal

pub loop-steps-init : goal.loop-steps-init
loop-steps-init c =
    let bits = capture_bits c.args.capture.now in
    let same : c.args.place.bit ≡ c.args.place.bit + 544 * (1 - 1) = omega arith in
    record {
      some = omega arith;
      within = omega (arith, c.requires.there.within, bits_long c.args.capture.now);
      chain = chain_first bits c.args.place.bit c.args.place.polarity c.requires.there;
      next = subst (λ (n : ℕ). Steps bits n c.args.place.polarity c.steps_on-steps.result) same c.steps_on-steps.ensures;
    }

pub steps_on-steps-requires-in-loop-steps-clause-there : goal.steps_on-steps-requires-in-loop-steps-clause-there
steps_on-steps-requires-in-loop-steps-clause-there c =
    (chain_on (capture_bits c.args.capture.now) c.args.place.bit c.loop-steps.batches c.loop-steps.steps c.args.place.polarity c.loop-steps.invariant.some
    (omega arith) c.loop-steps.invariant.chain c.loop-steps.invariant.next).last

pub loop-steps-preserved : goal.loop-steps-preserved
loop-steps-preserved c =
    let on = chain_on (capture_bits c.args.capture.now) c.args.place.bit c.loop-steps.batches c.loop-steps.steps c.args.place.polarity
    c.loop-steps.invariant.some (omega arith) c.loop-steps.invariant.chain c.loop-steps.invariant.next in
    record {
      some = omega arith;
      within = omega (arith, on.last.within, bits_long c.args.capture.now);
      chain = on;
      next = c.steps_on-steps-in-loop-steps.ensures;
    }

pub returns-clause-run : goal.returns-clause-run
returns-clause-run c =
    let bits = capture_bits c.args.capture.now in
    let zero : c.loop-steps.steps ≡ 0 = omega arith in
    chain_ends bits c.args.place.bit c.loop-steps.batches c.args.place.polarity c.loop-steps.invariant.some c.loop-steps.invariant.chain
    (subst (λ (n : ℕ). Steps bits (c.args.place.bit + 544 * (c.loop-steps.batches - 1)) c.args.place.polarity n) zero c.loop-steps.invariant.next)
