use Rattle.pocsag_capture.proofs.Prelude.{ℕ, ◌<◌, capture_bits, IsBreak}
use Rattle.pocsag_capture.proofs.received_words.words_read.Given as goal

abbrev pub invariant-loop-place : goal.invariant-loop-place
invariant-loop-place l = (place : ℕ) → place < l.place → ¬ IsBreak (capture_bits l.capture) l.run.polarity l.run.bit l.run.batches place
