use Rattle.pocsag_journal.proofs.reader.reader_of.Goals as goal

pub returns-clause-before : goal.returns-clause-before
returns-clause-before c = record { state = c.from_reader.ensures.state; source = c.from_reader.ensures.source }
