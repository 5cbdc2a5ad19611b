use Rattle.pocsag_capture.proofs.Prelude.{◌-◌, ◌<◌, capture_bits}
use Rattle.pocsag_capture.proofs.Counting.{IsCounting}
use Rattle.pocsag_capture.proofs.received_words.has_few_lost.Given as goal

abbrev pub invariant-loop-place : goal.invariant-loop-place
invariant-loop-place l = record {
  few : l.lost < l.place;
  counted : IsCounting (capture_bits l.capture) l.run (l.place - 1) l.lost;
}
