use Rattle.std.specs.Prelude.{◌≡◌, ◌+◌, ◌*◌}
use Rattle.pocsag_check.proofs.RowChecks.{IsLeft}
use Rattle.pocsag_check.proofs.checker.+checking.Given as goal

-- the children so far are accepted, and the limits are those of the node again
abbrev pub invariant-check_each-loop-place : goal.invariant-check_each-loop-place
invariant-check_each-loop-place l =
    IsLeft l.claim.takes_open l.claim.classes.now l.claim.end l.claim.batches l.fn.limits l.depth l.ways l.children l.place
    × (l.limits ≡ l.fn.limits)

-- a level goes from a node to its ways, and from each way to a node less deep
abbrev pub decreases-check_node : goal.decreases-check_node
decreases-check_node l = 4 * l.depth

abbrev pub decreases-check_below : goal.decreases-check_below
decreases-check_below l = 4 * l.depth + 1

abbrev pub decreases-check_from : goal.decreases-check_from
decreases-check_from l = 4 * l.depth + 1

abbrev pub decreases-check_way : goal.decreases-check_way
decreases-check_way l = 4 * l.depth + 1

abbrev pub decreases-check_each : goal.decreases-check_each
decreases-check_each l = 4 * l.depth + 2

abbrev pub decreases-check_cut : goal.decreases-check_cut
decreases-check_cut l = 4 * l.depth + 3
