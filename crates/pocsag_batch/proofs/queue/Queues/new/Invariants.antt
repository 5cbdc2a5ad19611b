use Rattle.pocsag_batch.proofs.Prelude.{◌≡◌, ◌≤◌, ◌-◌, length, range_with_len, AreChains}
use Rattle.pocsag_batch.proofs.queue.Queues.new.Given as goal

-- the queues of the places from here on
abbrev pub invariant-loop-place : goal.invariant-loop-place
invariant-loop-place l =
    (l.place ≤ length l.pages)
    × (length l.next.items ≡ length l.pages)
    × AreChains l.end l.pages (record { next = l.next.items; head = l.head }) (range_with_len l.place (length l.pages - l.place))

abbrev pub decreases-loop-place : goal.decreases-loop-place
decreases-loop-place l = l.place
