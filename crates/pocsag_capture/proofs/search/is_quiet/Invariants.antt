use Rattle.pocsag_capture.proofs.Prelude.{ℕ, ◌-◌, ◌/◌, ◌%◌, ◌^◌, ◌<◌, IsNear, sync_word, as_sent, Polarity}
use Rattle.pocsag_capture.proofs.search.is_quiet.Given as goal

abbrev pub invariant-loop-bit : goal.invariant-loop-bit
invariant-loop-bit l = (bit : ℕ) (polarity : Polarity) → bit < l.bit → ¬ IsNear sync_word (as_sent polarity (l.window / 2 ^ (8 - bit) % 2 ^ 32))
