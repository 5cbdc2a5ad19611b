-- What the limits of a node leave open: it falls from each node to its children, and bounds the depth of a
-- tree.
use Rattle.std.specs.Prelude.{◌≡◌, ℕ, ◌+◌, ◌<◌, ◌≤◌, ◌==◌, ◌&&◌, nat_lt, nat_le, cond, length, slice_index}
use Rattle.pocsag_slots.specs.declared.class.Classes.{Classes}
use Rattle.pocsag_slots.specs.declared.limit.Limits.{Limits}
use Rattle.pocsag_slots.specs.declared.way.Way.{Way}
use Rattle.pocsag_slots.specs.Loads.{AreInOrder}
use Rattle.pocsag_slots.specs.Sums.{sum_below}
use Rattle.pocsag_slots.specs.Ways.{narrowed_limits, limits_below, limits_from}

-- The limits of a node: one way each and by the counts, and no cap above the batches that are asked for.
pub record AreNodeLimits (k : Classes) (batches : ℕ) (l : Limits) : Type 0 where
  pub ordered : AreInOrder k l
  pub lo_long : length l.lo ≡ 136
  pub hi_long : length l.hi ≡ 136
  pub cap_long : length l.cap ≡ 16
  pub capped : (slot : ℕ) → slot < 16 → slice_index l.cap slot ≤ batches

-- Two questions about each class: whether some page of it is to start early, and whether some is to start late.
-- Each is open where the limits allow a yes and do not ask for it.
unfoldable pub class_left : ℕ → ℕ → ℕ → ℕ
class_left lo hi count = cond (lo == 0 && nat_lt 0 hi) 1 0 + cond (nat_le count hi && nat_lt lo count) 1 0

-- One question about each slot: whether some idle is to stand there.
unfoldable pub slot_left : ℕ → ℕ → ℕ
slot_left batches cap = cond (nat_le batches cap) 1 0

-- How many questions are open.
unfoldable pub undecided : Classes → ℕ → Limits → ℕ
undecided k batches l =
    sum_below 136 (λ c. class_left (slice_index l.lo c) (slice_index l.hi c) (slice_index k.count c))
    + sum_below 16 (λ slot. slot_left batches (slice_index l.cap slot))

-- The way settles one that is open.
abbrev pub Falls : Classes → ℕ → Limits → Way → Type 0
Falls k batches l way = undecided k batches (narrowed_limits k l way batches) < undecided k batches l

-- The class can be split at m, and both sides settle one that is open.
pub record IsSplitPoint (k : Classes) (batches : ℕ) (l : Limits) (c m : ℕ) : Type 0 where
  pub class : c < 136
  pub above : slice_index l.lo c < m
  pub within : m ≤ slice_index l.hi c
  pub below_falls : undecided k batches (limits_below l c m) < undecided k batches l
  pub from_falls : undecided k batches (limits_from l c m) < undecided k batches l
