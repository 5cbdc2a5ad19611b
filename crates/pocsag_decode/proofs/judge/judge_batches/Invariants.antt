use Rattle.pocsag_decode.proofs.Prelude.{◌*◌, drop, false, Bool, Result, words_of, DecodeFault, JudgesMore}
use Rattle.pocsag_decode.proofs.judge.judge_batches.Given as goal

abbrev pub invariant-loop-i : goal.invariant-loop-i
invariant-loop-i l = (r : Result Bool DecodeFault) → JudgesMore r (17 * l.i) l.in_page (words_of (drop (68 * l.i) l.bytes))
    → JudgesMore r 0 false (words_of l.bytes)
