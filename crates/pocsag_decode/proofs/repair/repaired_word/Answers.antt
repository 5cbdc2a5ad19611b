use Rattle.pocsag_decode.proofs.Prelude.{arith, IsRepaired}
use Rattle.pocsag_decode.proofs.repair.repaired_word.Goals as goal

pub returns-in-Some : goal.returns-in-Some
returns-in-Some c = rw c.raw.ensures.same (IsRepaired.codeword c.if-place-ne0.true c.in-Some.ensures)

pub returns-in-None : goal.returns-in-None
returns-in-None c = IsRepaired.beyond c.if-place-ne0.true c.in-None.ensures

pub returns-then-word-le-WRONG_BITS : goal.returns-then-word-le-WRONG_BITS
returns-then-word-le-WRONG_BITS c = IsRepaired.sync c.if-place-ne0.false c.if-word-le-WRONG_BITS.true

pub returns-else-word-le-WRONG_BITS : goal.returns-else-word-le-WRONG_BITS
returns-else-word-le-WRONG_BITS c = IsRepaired.no_sync c.if-place-ne0.false (λ near. omega arith)
