use Rattle.pocsag_words.proofs.Prelude.{◌≡◌, ℕ, ◌%◌, ◌<◌, bit_xor, ap, subst, sym, syndrome_of}
use Rattle.pocsag_words.proofs.ErrorLemmas.{syndrome_of-lt}
use Rattle.pocsag_words.proofs.checks.syndrome.Goals as goal

pub returns : goal.returns
unfolding syndrome_of
returns c =
    let value : bit_xor (c.args.number % 2048) c.check_bits.result ≡ syndrome_of c.args.number =
    ap (bit_xor (c.args.number % 2048)) c.check_bits.ensures.value in
    record { value = value; small = subst (λ (n : ℕ). n < 2048) (sym value) (syndrome_of-lt c.args.number) }
