use Rattle.pocsag_text.proofs.Prelude.{get_or, sym, arith, list_any_more, is_bad_digit}
use Rattle.pocsag_text.proofs.Codes.{no_digit_compared}
use Rattle.pocsag_text.proofs.pack.has_bad_digit.Goals as goal

pub loop-byte-preserved : goal.loop-byte-preserved
loop-byte-preserved c =
    let text = c.args.text.now in
    let i = c.loop-byte.byte-index in
    rw (c.loop-byte.invariant, no_digit_compared (get_or text i 0) (omega (arith, c.type_inv.text i))) (sym (list_any_more is_bad_digit text i 0 c.loop-byte-test.true))
