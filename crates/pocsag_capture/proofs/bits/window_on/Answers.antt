use Rattle.pocsag_capture.proofs.Prelude.{◌≡◌, ℕ, ◌+◌, ◌*◌, ◌<◌, get_or, arith}
use Rattle.pocsag_capture.proofs.Windows.{word_of_four, words_of_five}
use Rattle.pocsag_capture.proofs.bits.window_on.Goals as goal
use Rattle.pocsag_capture.proofs.bits.window_on.Goals.{then-at-capture, else-at-capture}

pub returns-clause-words : goal.returns-clause-words
returns-clause-words c = λ bit below within.
    let bytes = c.args.capture.now in
    let at = c.args.at in
    let small : (i : ℕ) → get_or bytes i 0 < 256 = λ i. omega (arith, (c.type_inv.capture i).fits) in
    let front : c.from.result ≡ ((get_or bytes at 0 * 256 + get_or bytes (at + 1) 0) * 256 + get_or bytes (at + 2) 0) * 256 + get_or bytes (at + 3) 0 =
    omega arith in
    elim c.if-at-capture.branch [
      | then-at-capture w ↦ words_of_five bytes at bit (256 * c.from.result + c.from-2.result) (omega arith) small below (omega arith)
      | else-at-capture w ↦ word_of_four bytes at bit (256 * c.from.result + c.from-2.result) (omega arith) small (omega arith) (omega arith)
    ]
