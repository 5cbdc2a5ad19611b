use Rattle.pocsag_pages.proofs.QueueParts.{queue_order}
use Rattle.pocsag_laws.proofs.queue.queues_keep_order.Goals as goal

pub returns : goal.returns
returns c = queue_order
