use Rattle.pocsag_laws.proofs.Prelude.{HasFailedOutput}
use Rattle.pocsag_laws.proofs.SessionRuns.{session_lined, session_run}
use Rattle.pocsag_laws.proofs.journal.sessions_are_runs.Goals as goal

pub returns-clause-run : goal.returns-clause-run
returns-clause-run g c = session_run g.P.OutputStore.is_known (HasFailedOutput g.P.Output.Sink.failures)

pub returns-clause-lined : goal.returns-clause-lined
returns-clause-lined g c = session_lined g.P.OutputStore.is_known (HasFailedOutput g.P.Output.Sink.failures)
