use Rattle.pocsag_laws.proofs.Prelude.{map, refl, kind_of, codewords_in, pages_from, no_fault_whole, whole_no_fault}
use Rattle.pocsag_decode.proofs.SentBytes.{reads_whole}
use Rattle.pocsag_decode.proofs.Transmissions.{whole_reads}
use Rattle.pocsag_laws.proofs.readings.no_fault_is_a_reading.Goals as goal

pub returns : goal.returns
returns c = λ X small. (
  λ none. (pages_from 0 (map kind_of (codewords_in X)), whole_reads X (no_fault_whole X small none) _ refl),
  λ r. whole_no_fault X (reads_whole X r.0 small r.1),
)
