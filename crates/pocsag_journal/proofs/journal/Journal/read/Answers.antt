use Rattle.pocsag_journal.proofs.Prelude.{◌∙◌, disk_of}
use Rattle.pocsag_journal.proofs.PrintedReplays.{told_of}
use Rattle.pocsag_journal.proofs.journal.Journal.read.Goals as goal

pub returns-in-Ok-clause-told : goal.returns-in-Ok-clause-told
returns-in-Ok-clause-told g c = λ is_known.
    told_of c.as_slice.result.now (g.D.Disk.held (disk_of c.args.self.now)) _ _ (c.as_slice.ensures.value ∙ c.in-Ok.ensures.whole is_known)
    c.replay.result c.replay.ensures.told
