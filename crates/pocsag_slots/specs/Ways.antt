-- The ways out of a set of boundaries, and what each leaves of the limits (this project's own).
use Rattle.std.specs.Prelude.{ℕ, ◌+◌, ◌-◌, ◌%◌, ◌<◌, ◌&&◌, ◌||◌, nat_lt, min, max, Bool, true, false, not, cond, List, [], ◌∷◌, ◌++◌, slice_index, slice_set}
use Rattle.pocsag_words.specs.declared.ending.End.{End}
use Rattle.pocsag_words.specs.declared.ending.End.TheVariants as ends
use Rattle.pocsag_slots.specs.declared.class.Classes.{Classes}
use Rattle.pocsag_slots.specs.declared.limit.Limits.{Limits}
use Rattle.pocsag_slots.specs.declared.way.Way.{Way}
use Rattle.pocsag_slots.specs.declared.way.Way.TheVariants.{IdleIn, Early, Late}
use Rattle.pocsag_slots.specs.Classes.{class_count, last_class, last_slot, slot_count, start_of, finish_of}
use Rattle.pocsag_slots.specs.Sums.{holds, joined_below}

-- A run of the class has an end outside the set.
unfoldable pub run_touches : ℕ → Bool → ℕ → Bool
run_touches c early set = not (holds set (start_of c early)) || not (holds set (finish_of c early))

-- Exactly one end of the arc is in the set.
unfoldable pub run_crosses : ℕ → Bool → ℕ → Bool
run_crosses c early set =
    cond (holds set (start_of c early)) (not (holds set (finish_of c early))) (holds set (finish_of c early))

unfoldable pub idle_crosses : ℕ → ℕ → Bool
idle_crosses slot set =
    cond (holds set slot) (not (holds set ((slot + 1) % slot_count))) (holds set ((slot + 1) % slot_count))

-- The class is certain for the set: under the limits some run of it has an end outside.
unfoldable pub class_certain : Classes → Limits → ℕ → ℕ → Bool
class_certain k l set c =
    nat_lt 0 (slice_index k.count c)
    && ((run_touches c true set && run_touches c false set)
    || (run_touches c true set && nat_lt 0 (slice_index l.lo c))
    || (run_touches c false set && nat_lt (slice_index l.hi c) (slice_index k.count c)))

-- The ways out of a set: an idle of a crossing slot, slots in order, and then a run of a crossing
-- class that the limits allow, early before late, classes in order.
unfoldable pub early_open : Classes → Limits → ℕ → ℕ → Bool
early_open k l set c = run_crosses c true set && nat_lt 0 (slice_index k.count c) && nat_lt 0 (slice_index l.hi c)

unfoldable pub late_open : Classes → Limits → ℕ → ℕ → Bool
late_open k l set c = run_crosses c false set && nat_lt (slice_index l.lo c) (slice_index k.count c)

unfoldable pub slot_ways : ℕ → ℕ → List Way
slot_ways set slot = cond (idle_crosses slot set) (IdleIn slot ∷ []) []

unfoldable pub class_ways : Classes → Limits → ℕ → ℕ → List Way
class_ways k l set c = cond (early_open k l set c) (Early c ∷ []) [] ++ cond (late_open k l set c) (Late c ∷ []) []

unfoldable pub ways_across : Classes → Limits → ℕ → List Way
ways_across k l set = joined_below slot_count (slot_ways set) ++ joined_below class_count (class_ways k l set)

-- The ways in which a transmission may end as an end asks for: an idle in the last slot, or with the
-- closed end an address codeword alone there. The open end asks for none.
unfoldable pub ways_to_close : Classes → End → Limits → List Way
ways_to_close k ends.Open l = []
ways_to_close k ends.Closed l =
    IdleIn last_slot ∷ cond (nat_lt (slice_index l.lo last_class) (slice_index k.count last_class)) (Late last_class ∷ []) []
ways_to_close k ends.Idle l = IdleIn last_slot ∷ []

-- The way is open under the limits.
abbrev pub MayTake : Classes → Limits → Way → Type 0
MayTake k l (IdleIn slot) = slot < slot_count
MayTake k l (Early c) = (c < class_count) × (0 < slice_index l.hi c)
MayTake k l (Late c) = (c < class_count) × (slice_index l.lo c < slice_index k.count c)

-- The limits of the transmissions that take the way: at least one idle stands in the slot, so that pages
-- cover it at most batches - 1 times, however often the way is taken; or at least one run of the class
-- starts so.
abbrev pub narrowed_limits : Classes → Limits → Way → ℕ → Limits
narrowed_limits k l (IdleIn slot) batches = record l { cap = slice_set l.cap slot (min (slice_index l.cap slot) (batches - 1)) }
narrowed_limits k l (Early c) batches = record l { lo = slice_set l.lo c (max (slice_index l.lo c) 1) }
narrowed_limits k l (Late c) batches = record l { hi = slice_set l.hi c (min (slice_index l.hi c) (slice_index k.count c - 1)) }

-- The limits of a class split at m: fewer than m of its pages start early, or at least m do.
abbrev pub limits_below : Limits → ℕ → ℕ → Limits
limits_below l c m = record l { hi = slice_set l.hi c (m - 1) }

abbrev pub limits_from : Limits → ℕ → ℕ → Limits
limits_from l c m = record l { lo = slice_set l.lo c m }
