use Rattle.pocsag_words.proofs.ErrorLemmas.{numbers_are_repaired_lem}
use Rattle.pocsag_words.proofs.laws.numbers_are_repaired.Goals as goal

pub returns : goal.returns
returns c = numbers_are_repaired_lem
