use Rattle.pocsag_words.proofs.Prelude.{arith}
use Rattle.pocsag_words.proofs.BlockCode.{IsCodeword-encode, same_from_data}
use Rattle.pocsag_words.proofs.codeword.encode.Goals as goal

pub invariant_of-result : goal.invariant_of-result
invariant_of-result c = IsCodeword-encode _ _ c.requires c.check_bits.ensures.value

pub returns-clause-codeword : goal.returns-clause-codeword
returns-clause-codeword c = IsCodeword-encode _ _ c.requires c.check_bits.ensures.value

pub returns-clause-only : goal.returns-clause-only
returns-clause-only c =
    λ w is carries. same_from_data w _ is (IsCodeword-encode _ _ c.requires c.check_bits.ensures.value) (omega arith)
