use Rattle.pocsag_journal.proofs.Prefixes.{acknowledged_read, one_more_read, prefix_read}
use Rattle.pocsag_laws.proofs.journal.a_prefix_is_read.Goals as goal

pub returns-clause-firsts : goal.returns-clause-firsts
returns-clause-firsts c = prefix_read

pub returns-clause-acknowledged : goal.returns-clause-acknowledged
returns-clause-acknowledged c = acknowledged_read

pub returns-clause-one_more : goal.returns-clause-one_more
returns-clause-one_more c = one_more_read
