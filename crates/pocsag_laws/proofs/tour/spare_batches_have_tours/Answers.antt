use Rattle.pocsag_laws.proofs.Prelude.{set_taking}
use Rattle.pocsag_tour.proofs.Spares.{spare_tour}
use Rattle.pocsag_laws.proofs.Refused.{never_apart, never_unclosed}
use Rattle.pocsag_laws.proofs.tour.spare_batches_have_tours.Goals as goal

pub returns-clause-spare : goal.returns-clause-spare
returns-clause-spare c = spare_tour set_taking

pub returns-clause-apart : goal.returns-clause-apart
returns-clause-apart c = never_apart

pub returns-clause-unclosed : goal.returns-clause-unclosed
returns-clause-unclosed c = never_unclosed
