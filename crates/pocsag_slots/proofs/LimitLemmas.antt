-- Limits in order.
use Rattle.pocsag_slots.proofs.Prelude.{◌≡◌, ℕ, arith, replicate, slice_index, get_or-replicate, Classes, AreInOrder, limits_of_all}

pub all_ordered : (k : Classes) (batches : ℕ) → AreInOrder k (limits_of_all k batches)
all_ordered k batches =
    record {
      order = λ c h. let none : slice_index (replicate 136 0) c ≡ 0 = get_or-replicate 136 c 0 0 h in omega arith;
      counted = λ c h. omega arith;
    }
