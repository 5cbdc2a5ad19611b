use Rattle.pocsag_laws.proofs.Airtimes.{least_time, more_time}
use Rattle.pocsag_laws.proofs.laws.fewest_batches_take_least_time.Goals as goal

pub returns-clause-least : goal.returns-clause-least
returns-clause-least c = least_time

pub returns-clause-more : goal.returns-clause-more
returns-clause-more c = more_time
