use Rattle.pocsag_show.proofs.Prelude.{◌≡◌, ℕ, ◌+◌, ◌^◌, length, slice_index, addresses_of, addresses_ahead, pages_begun}
use Rattle.pocsag_show.proofs.PageNumbers.{IsNumbering, equal_in}
use Rattle.pocsag_show.proofs.page_numbers.PageNumbers.table.Given as goal

abbrev pub invariant-loop-address : goal.invariant-loop-address
invariant-loop-address l =
    let addresses = addresses_of (pages_begun l.fn.bytes) in
    record {
      long : length l.table.items ≡ 2 ^ 21;
      counting : (a : ℕ) → slice_index l.table.items a + equal_in (addresses_ahead l.kinds) a ≡ equal_in addresses a;
    }

abbrev pub decreases-loop-address : goal.decreases-loop-address
decreases-loop-address l = length (addresses_ahead l.kinds)

abbrev pub invariant-loop-address-2 : goal.invariant-loop-address-2
invariant-loop-address-2 l = IsNumbering (addresses_of (pages_begun l.fn.bytes)) l.table.items l.address l.smaller
