use Rattle.pocsag_words.proofs.Prelude.{◌≡◌, ℕ, ◌<◌, bit_xor, subst, sym, check_of}
use Rattle.pocsag_words.proofs.BlockCode.{check_of-lt}
use Rattle.pocsag_words.proofs.Tables.{check_of_tables}
use Rattle.pocsag_words.proofs.checks.check_bits.Goals as goal

pub returns : goal.returns
returns c =
    let tables = check_of_tables c.args.bits c.requires in
    let value : bit_xor (bit_xor c.entry-low.result c.entry-middle.result) c.entry-high.result ≡ check_of c.args.bits =
    cc (c.entry-low.ensures, c.entry-middle.ensures, c.entry-high.ensures) in
    record { value = value; small = subst (λ (n : ℕ). n < 2048) (sym value) (check_of-lt c.args.bits) }
