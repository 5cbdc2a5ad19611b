use Rattle.pocsag_batch.proofs.Prelude.{◌++◌, ◌*◌, ◌≤◌, List, drop, length, map, kind_of, Kind, InOrder, IsFileOrder}
use Rattle.pocsag_batch.proofs.order.lay_in_order.Given as goal

-- what is laid, and the rest in order from here, are the round in file order
abbrev pub invariant-loop-page : goal.invariant-loop-page
invariant-loop-page l =
    ((U : List Kind) → InOrder (length l.words) (drop l.page-index l.round) U → IsFileOrder l.round (map kind_of l.words ++ U))
    × (length l.words ≤ 1416 * l.page-index)
