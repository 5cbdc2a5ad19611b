use Rattle.pocsag_show.proofs.Prelude.{◌≡◌, List, ℕ, ◌++◌, ap, sym, ◌∙◌, append-nil, IsNonDecreasingBy-from_sort, addresses_of, pages_begun}
use Rattle.pocsag_show.proofs.PageNumbers.{sorted_below}
use Rattle.pocsag_show.proofs.page_numbers.SortedAddresses.new.Goals as goal

pub invariant_of-result : goal.invariant_of-result
invariant_of-result c = record { ordered = IsNonDecreasingBy-from_sort (λ x. x) _ c.sort_unstable.ensures.sorted }

pub returns : goal.returns
returns c =
    let collected = c.loop-address.addresses.items in
    let all : collected ≡ addresses_of (pages_begun c.args.bytes.now) =
    sym (append-nil collected) ∙ (ap (λ (l : List ℕ). collected ++ l) (sym c.in_default.ensures.read) ∙ c.loop-address.invariant) in
    sorted_below (pages_begun c.args.bytes.now) collected _ all c.sort_unstable.ensures.permutation
