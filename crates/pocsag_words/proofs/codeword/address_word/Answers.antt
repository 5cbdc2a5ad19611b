use Rattle.pocsag_words.proofs.Prelude.{◌≡◌, ◌+◌, ◌*◌, ◌/◌, arith}
use Rattle.pocsag_words.proofs.KindLemmas.{kind_of-address}
use Rattle.pocsag_words.proofs.codeword.address_word.Goals as goal

pub returns-clause-kind : goal.returns-clause-kind
returns-clause-kind c =
    let carries : c.encode.result / 2048 ≡ 4 * c.args.high + c.args.function = omega arith in
    kind_of-address _ _ _ c.encode.ensures.codeword c.requires.function c.requires.high carries
