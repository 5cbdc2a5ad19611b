use Rattle.pocsag_decode.proofs.Prelude.{inl, refl, arith, err_from_is_err_and}
use Rattle.pocsag_decode.proofs.Fine.{kept_word, read_codeword, read_sync}
use Rattle.pocsag_decode.proofs.body.Body.take_word.Goals as goal
use Rattle.pocsag_decode.proofs.body.Body.take_word.Goals.{then-self-gt0+in_ok-take, else-self-gt0}

pub returns-in_err-take-clause-bad : goal.returns-in_err-take-clause-bad
returns-in_err-take-clause-bad c = λ ws r.
    let p = err_from_is_err_and c.from_residual-in_err-take.result c.from_residual-in_err-take.ensures.1 in
    rw (p.1, p.2) (inl (
      refl,
      kept_word _ _ ws _ _ _ c.is_some.ensures c.in_ok-judge_word.ensures.judged r c.if-self-gt0.true
          c.in_err-take.ensures.memory,
    ))

pub returns-clause-read : goal.returns-clause-read
returns-clause-read c = λ ws r.
    elim c.if-self-gt0.branch [
      | then-self-gt0+in_ok-take w ↦
          rw w.self-is
          (read_codeword _ _ ws _ _ _ c.is_some.ensures c.in_ok-judge_word.ensures.judged r _ _ w.if-self-gt0.true refl
          w.kind_of_number.result w.kind_of_number.ensures.kind w.in_ok-take.ensures.current w.in_ok-take.ensures.reads)
      | else-self-gt0 w ↦
          rw w.self-is (read_sync _ _ ws _ _ _ c.is_some.ensures c.in_ok-judge_word.ensures.judged r (omega arith))
    ]
