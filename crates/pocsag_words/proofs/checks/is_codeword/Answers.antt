use Rattle.pocsag_words.proofs.ErrorLemmas.{codeword_test}
use Rattle.pocsag_words.proofs.checks.is_codeword.Goals as goal

pub returns : goal.returns
returns c = codeword_test _ _ c.ranges.number.fits c.syndrome.ensures.value
