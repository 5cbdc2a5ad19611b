use Rattle.pocsag_laws.proofs.Prelude.{codewords_differ_lem}
use Rattle.pocsag_laws.proofs.codeword.codewords_differ.Goals as goal

pub returns : goal.returns
returns c = codewords_differ_lem
