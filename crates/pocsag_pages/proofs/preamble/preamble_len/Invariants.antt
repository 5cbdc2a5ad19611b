use Rattle.pocsag_pages.proofs.Prelude.{◌≡◌, ◌+◌, drop, leading}
use Rattle.pocsag_pages.proofs.preamble.preamble_len.Given as goal

abbrev pub invariant-loop-count : goal.invariant-loop-count
invariant-loop-count l = leading l.bytes ≡ l.count + leading (drop l.count l.bytes)
