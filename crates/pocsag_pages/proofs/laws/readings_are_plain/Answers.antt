use Rattle.pocsag_pages.proofs.Readings.{reads_plainly, plain_reads}
use Rattle.pocsag_pages.proofs.laws.readings_are_plain.Goals as goal

pub returns : goal.returns
returns c = λ ws i ps. (λ r. let d = reads_plainly r in (d.no_orphan, d.pages), λ h. plain_reads ws i ps h.0 h.1)
