use Rattle.pocsag_laws.proofs.AlonePages.{oversized_needs}
use Rattle.pocsag_laws.proofs.queue.oversized_pages_need_more.Goals as goal

pub returns : goal.returns
returns c = oversized_needs
