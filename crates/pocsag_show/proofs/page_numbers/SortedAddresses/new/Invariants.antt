use Rattle.pocsag_show.proofs.Prelude.{◌≡◌, ◌++◌, length, addresses_of, addresses_ahead, pages_begun}
use Rattle.pocsag_show.proofs.page_numbers.SortedAddresses.new.Given as goal

abbrev pub invariant-loop-address : goal.invariant-loop-address
invariant-loop-address l = l.addresses.items ++ addresses_ahead l.kinds ≡ addresses_of (pages_begun l.fn.bytes)

abbrev pub decreases-loop-address : goal.decreases-loop-address
decreases-loop-address l = length (addresses_ahead l.kinds)
