use Rattle.pocsag_decode.proofs.Prelude.{arith}
use Rattle.pocsag_decode.proofs.Fine.{fine_sync, not_codeword, not_sync}
use Rattle.pocsag_decode.proofs.judge.judge_word.Goals as goal

pub returns-in-None-clause-judged : goal.returns-in-None-clause-judged
returns-in-None-clause-judged c = λ ws h. rw c.index_at.ensures (not_codeword c.args.place c.args.in_page c.args.word c.if-place-gt0.true c.in-None.ensures ws h)

pub returns-then-word-ne-SYNC_WORD-clause-judged : goal.returns-then-word-ne-SYNC_WORD-clause-judged
returns-then-word-ne-SYNC_WORD-clause-judged c = not_sync c.args.place c.args.in_page c.args.word (omega arith) c.if-word-ne-SYNC_WORD.true

pub returns-clause-judged : goal.returns-clause-judged
returns-clause-judged c = fine_sync c.args.place c.args.in_page c.args.word (omega arith) c.if-word-ne-SYNC_WORD.false
