use Rattle.pocsag_batch.proofs.Prelude.{◌*◌, ◌≤◌, List, drop, length, Kind, IsFileOrder}
use Rattle.pocsag_batch.proofs.FileOrders.{HasLeft}
use Rattle.pocsag_batch.proofs.order.in_order_batches.Given as goal

-- what is left of each file order starts at the index, which the limits keep small
abbrev pub invariant-loop-page : goal.invariant-loop-page
invariant-loop-page l =
    ((T : List Kind) → IsFileOrder l.round T → HasLeft l.index (drop l.page-index l.round) (length T))
    × (l.index ≤ 1416 * l.page-index)
