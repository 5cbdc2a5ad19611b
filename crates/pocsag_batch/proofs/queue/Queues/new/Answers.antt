use Rattle.pocsag_batch.proofs.Prelude.{◌≡◌, ◌≤◌, ℕ, ◌+◌, ◌-◌, ◌<◌, suc, List, length, slice_index, slice_set, ◌∙◌, arith, range_with_len, length-set, Page, AreChains, class_at}
use Rattle.pocsag_batch.proofs.Chains.{chains_added, class_at_item}
use Rattle.pocsag_batch.proofs.queue.Queues.new.Goals as goal

pub loop-place-preserved : goal.loop-place-preserved
loop-place-preserved c =
    let R : List Page = c.args.pages.now in
    let place = c.loop-place.place in
    let at = place - 1 in
    let next : List ℕ = c.loop-place.next.items in
    let head : List ℕ = c.loop-place.head in
    let class : ℕ = c.class_of-class.result.number in
    let linked : List ℕ = slice_set next at (slice_index head class) in
    let some : 0 < place = c.loop-place-test.true in
    let most : place ≤ length R = c.loop-place.invariant.0 in
    let long : length next ≡ length R = c.loop-place.invariant.1 in
    let left : place ≡ at + 1 = omega arith in
    let many : suc (length R - place) ≡ length R - at = omega arith in
    let before : AreChains c.args.end R (record { next = next; head = head }) (range_with_len (at + 1) (length R - place)) =
    rw (← left) c.loop-place.invariant.2 in
    let is : class ≡ class_at c.args.end R at =
    c.class_of-class.ensures ∙ class_at_item c.args.end R at c.index-pages-place.result (omega arith) c.index-pages-place.is in (
      omega arith,
      length-set next at (slice_index head class) ∙ long,
      rw (← many)
          (chains_added c.args.end R next head at (length R - place) class (omega arith) is c.class_of-class.result.known before),
    )
