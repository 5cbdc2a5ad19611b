-- Sets of addresses, of one bit each.
use Rattle.std.specs.Prelude.{ℕ, ◌/◌, ◌%◌, Bool, List, nat_eq, get_or}
use Rattle.std.specs.Int.{bit_at}

-- Whether the bit of a number is set, in words of 64 bits, the lowest first.
unfoldable pub is_marked : List ℕ → ℕ → Bool
is_marked words a = nat_eq (bit_at (get_or words (a / 64) 0) (a % 64)) 1
