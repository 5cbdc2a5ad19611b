use Rattle.pocsag_capture.proofs.Prelude.{ℕ, ◌+◌, ◌*◌, ap, arith, subst, sym, min-le_right, capture_bits, HasInFront, IsQuiet, last_sync}
use Rattle.pocsag_capture.proofs.SearchLemmas.{SoFar, found_all, found_more, found_same, run_begins}
use Rattle.pocsag_capture.proofs.Windows.{bits_long}
use Rattle.pocsag_capture.proofs.search.receptions.Goals as goal

pub loop-place-preserved-then-counts : goal.loop-place-preserved-then-counts
loop-place-preserved-then-counts c =
    let bits = capture_bits c.args.capture.now in
    let run = run_begins bits c.loop-place.first c.in-Some.place.bit c.in-Some.place.polarity c.run_of-run.result c.in-Some.ensures.later
    c.in-Some.ensures.quiet c.in-Some.ensures.there c.run_of-run.ensures.run in
    record {
      small = omega (arith, c.run_of-run.ensures.end);
      held_small = omega (arith, c.run_of-run.ensures.end, c.min.ensures, min-le_right c.reception_of-reception.result.words (17 * c.run_of-run.result.batches));
      so_far = subst (λ (n : ℕ). SoFar bits (last_sync c.run_of-run.result + 1) n c.push.new.self.items)
          (sym (ap (λ (n : ℕ). c.run_of-run.result.bit + 32 * n) c.min.ensures))
          (found_more bits c.loop-place.first c.loop-place.held c.loop-place.found.items c.push.new.self.items c.run_of-run.result
          c.reception_of-reception.result c.loop-place.invariant.so_far run (c.counts.ensures.0 c.if-counts.true) c.reception_of-reception.ensures.run
          (subst (HasInFront bits c.loop-place.held c.run_of-run.result.polarity c.run_of-run.result.bit) (sym c.reception_of-reception.ensures.front)
          c.read_in_front.ensures) c.in_ok-push.ensures.items);
    }

pub loop-place-preserved : goal.loop-place-preserved
loop-place-preserved c =
    let bits = capture_bits c.args.capture.now in
    let run = run_begins bits c.loop-place.first c.in-Some.place.bit c.in-Some.place.polarity c.run_of-run.result c.in-Some.ensures.later
    c.in-Some.ensures.quiet c.in-Some.ensures.there c.run_of-run.ensures.run in
    record {
      small = omega (arith, c.run_of-run.ensures.end);
      held_small = c.loop-place.invariant.held_small;
      so_far = found_same bits c.loop-place.first c.loop-place.held c.loop-place.found.items c.run_of-run.result c.loop-place.invariant.so_far run
          (λ is. let counts = c.counts.ensures.1 is in absurd (cc));
    }

pub returns : goal.returns
returns c =
    let bits = capture_bits c.args.capture.now in
    found_all bits c.loop-place.first c.loop-place.held c.loop-place.found.items c.loop-place.invariant.so_far
    (subst (λ (n : ℕ). IsQuiet bits c.loop-place.first n) (sym (bits_long c.args.capture.now)) c.in_default.ensures.none)
