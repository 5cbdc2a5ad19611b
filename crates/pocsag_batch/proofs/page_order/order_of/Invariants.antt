use Rattle.pocsag_batch.proofs.Prelude.{drop}
use Rattle.pocsag_batch.proofs.Orders.{Stands}
use Rattle.pocsag_batch.proofs.page_order.order_of.Given as goal

abbrev pub invariant-loop-step : goal.invariant-loop-step
invariant-loop-step l = Stands l.fn.end l.fn.round l.queues l.order.items l.fn.steps (drop l.step-index l.fn.steps)
