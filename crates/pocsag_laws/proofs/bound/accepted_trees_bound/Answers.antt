use Rattle.pocsag_laws.proofs.Prelude.{bounded, none_fits}
use Rattle.pocsag_laws.proofs.bound.accepted_trees_bound.Goals as goal

pub returns-clause-batches : goal.returns-clause-batches
returns-clause-batches c = bounded

pub returns-clause-limits : goal.returns-clause-limits
returns-clause-limits c = none_fits
