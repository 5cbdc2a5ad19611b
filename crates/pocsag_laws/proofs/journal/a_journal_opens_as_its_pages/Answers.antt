use Rattle.pocsag_laws.proofs.Prelude.{HasFailedOutput}
use Rattle.pocsag_laws.proofs.Reopened.{reopened}
use Rattle.pocsag_laws.proofs.journal.a_journal_opens_as_its_pages.Goals as goal

pub returns : goal.returns
returns g c = reopened g.P.OutputStore.is_known (HasFailedOutput g.P.Output.Sink.failures)
