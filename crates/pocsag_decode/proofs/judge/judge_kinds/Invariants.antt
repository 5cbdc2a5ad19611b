use Rattle.pocsag_decode.proofs.Prelude.{◌≡◌, ◌+◌, drop, Bool, Result, DecodeFault, JudgesMore}
use Rattle.pocsag_decode.proofs.judge.judge_kinds.Given as goal

abbrev pub invariant-loop-codeword : goal.invariant-loop-codeword
invariant-loop-codeword l = record {
  at : l.place ≡ l.fn.place + l.codeword-index;
  rest : (r : Result Bool DecodeFault) → JudgesMore r l.place l.in_page (drop l.codeword-index l.codewords)
      → JudgesMore r l.fn.place l.fn.in_page l.codewords;
}
