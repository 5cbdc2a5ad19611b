use Rattle.pocsag_decode.proofs.Prelude.{refl, arith, err_from_is_err_and}
use Rattle.std.proofs.Common.{Err, Ok}
use Rattle.pocsag_decode.proofs.Fine.{none_behind, word_bad, word_then}
use Rattle.pocsag_decode.proofs.judge.judge_kinds.Goals as goal

pub loop-codeword-init : goal.loop-codeword-init
loop-codeword-init c = record { at = omega arith; rest = λ r h. h }

pub loop-codeword-preserved : goal.loop-codeword-preserved
loop-codeword-preserved c =
    let loop = c.loop-codeword in
    record {
      at = let at = loop.invariant.at in omega arith;
      rest = λ r h. loop.invariant.rest r
          (word_then loop.place loop.codeword-index loop.in_page c.args.codewords.now _ (omega arith) refl c.in_ok-in_page.in_page r
          c.in_ok-in_page.ensures.judged h);
    }

pub returns-in_err-in_page : goal.returns-in_err-in_page
returns-in_err-in_page c =
    let loop = c.loop-codeword in
    let p = err_from_is_err_and c.from_residual.result c.from_residual.ensures.1 in
    let f = c.in_err-in_page.field-0.0 in
    rw (p.1, p.2) (loop.invariant.rest (Err f)
    (word_bad loop.place loop.codeword-index loop.in_page c.args.codewords.now _ (omega arith) refl f c.in_err-in_page.ensures.judged))

pub returns : goal.returns
returns c =
    let loop = c.loop-codeword in
    loop.invariant.rest (Ok loop.in_page) (none_behind loop.place loop.codeword-index loop.in_page c.args.codewords.now (omega arith))
