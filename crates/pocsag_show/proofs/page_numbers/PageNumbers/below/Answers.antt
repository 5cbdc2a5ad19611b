use Rattle.pocsag_show.proofs.Prelude.{rules, ◌≡◌, sym, subst, ◌∙◌, ap, nat_lt, IsNonDecreasing, IsPartitionPoint-from_clause, IsPartitionedBy-ltb, number_below, smaller_in, PageNumbers}
use Rattle.pocsag_show.proofs.PageNumbers.{smaller_first}
use Rattle.pocsag_show.proofs.page_numbers.PageNumbers.below.Goals as goal

pub returns-in-Sorted : goal.returns-in-Sorted
returns-in-Sorted c =
    let address = c.args.address in
    let sorted = c.in-Sorted.sorted in
    let same : c.deref.result.now ≡ sorted.addresses.items = c.deref.ensures.value in
    let ordered : IsNonDecreasing c.deref.result.now = subst IsNonDecreasing (sym same) sorted.ordered in
    let point = IsPartitionPoint-from_clause (λ x. nat_lt x address) c.deref.result.now _ c.partition_point.ensures.partitioned
    (IsPartitionedBy-ltb (λ x. x) _ address ordered) (λ a r q k. search rules) in
    sym (smaller_first c.deref.result.now address _ c.partition_point.ensures.bound point)
    ∙ (ap (λ xs. smaller_in xs address) same ∙ ap (λ (n : PageNumbers). number_below n address) (sym c.in-Sorted.is))
