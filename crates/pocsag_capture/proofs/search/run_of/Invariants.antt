use Rattle.pocsag_capture.proofs.Prelude.{◌+◌, ◌-◌, ◌*◌, ◌<◌, ◌≤◌, length, capture_bits, Steps}
use Rattle.pocsag_capture.proofs.SearchLemmas.{IsChain}
use Rattle.pocsag_capture.proofs.search.run_of.Given as goal

abbrev pub invariant-loop-steps : goal.invariant-loop-steps
invariant-loop-steps l = record {
  some : 0 < l.batches;
  within : l.bit + 544 * l.batches ≤ 8 * length l.capture + 512;
  chain : IsChain (capture_bits l.capture) l.bit l.polarity l.batches;
  next : Steps (capture_bits l.capture) (l.bit + 544 * (l.batches - 1)) l.polarity l.steps;
}

abbrev pub decreases-loop-steps : goal.decreases-loop-steps
decreases-loop-steps l = 8 * length l.capture + 544 - (l.bit + 544 * l.batches)
