use Rattle.pocsag_wav.proofs.Sounds.{counts_rounded}
use Rattle.pocsag_wav.proofs.wav.sample_count.Goals as goal

pub returns-clause-count : goal.returns-clause-count
returns-clause-count c = counts_rounded c.args.keying c.args.bits c.from.result c.from-2.result c.div_ceil-count.result c.from.ensures c.from-2.ensures c.div_ceil-count.ensures
