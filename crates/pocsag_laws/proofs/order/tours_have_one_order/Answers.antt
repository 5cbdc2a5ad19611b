use Rattle.pocsag_laws.proofs.OrderExists.{tour_has_order}
use Rattle.pocsag_laws.proofs.Prelude.{one_order, order_has_places, order_lays}
use Rattle.pocsag_laws.proofs.order.tours_have_one_order.Goals as goal

pub returns-clause-some : goal.returns-clause-some
returns-clause-some c = tour_has_order

pub returns-clause-one : goal.returns-clause-one
returns-clause-one c = one_order

pub returns-clause-places : goal.returns-clause-places
returns-clause-places c = order_has_places

pub returns-clause-layout : goal.returns-clause-layout
returns-clause-layout c = order_lays
