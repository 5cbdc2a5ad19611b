use Rattle.pocsag_decode.proofs.Prelude.{◌≡◌, ◌+◌, drop, map, Bool, Result, from_be_bytes, w32, words_of, DecodeFault, JudgesMore}
use Rattle.pocsag_decode.proofs.judge.judge_words.Given as goal

abbrev pub invariant-loop-word : goal.invariant-loop-word
invariant-loop-word l = record {
  at : l.place ≡ l.fn.place + l.word-index;
  rest : (r : Result Bool DecodeFault) → JudgesMore r l.place l.in_page (drop l.word-index (map (from_be_bytes w32) l.words))
      → JudgesMore r l.fn.place l.fn.in_page (words_of l.fn.bytes);
}
