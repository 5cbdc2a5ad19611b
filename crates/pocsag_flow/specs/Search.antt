-- The search for a way that leads load from an overfull slot to one with room (this project's own).
use Rattle.std.specs.Prelude.{◌≡◌, ◌≢◌, ℕ, ◌+◌, ◌*◌, ◌<◌, ◌≤◌, ◌==◌, ◌⊎◌, cond, true, false, List, length, slice_index}
use Rattle.pocsag_slots.specs.declared.class.Classes.{Classes}
use Rattle.pocsag_slots.specs.declared.limit.Limits.{Limits}
use Rattle.pocsag_slots.specs.Loads.{AreInOrder, IsWithin, load}
use Rattle.pocsag_slots.specs.Classes.{finish_of, start_of}
use Rattle.pocsag_slots.specs.Sums.{holds}
use Rattle.pocsag_flow.specs.declared.network.Network.{Network}
use Rattle.pocsag_flow.specs.declared.network.Progress.{Progress}

-- The network holds the loads of the search's choice, which is within the limits.
pub record IsNetworkOf (n : Network) (s : Progress) : Type 0 where
  pub ordered : AreInOrder n.classes.now n.limits.now
  pub within : IsWithin n.limits.now (slice_index s.early)
  pub size : length s.early ≡ 136
  pub loads : (slot : ℕ) → slot < 16 → slice_index n.loads slot ≡ load n.classes.now (slice_index s.early) slot

-- Some load may be pushed in the network: what each step of the search asks.
pub record MayPush (n : Network) (s : Progress) (most : ℕ) : Type 0 where
  pub network : IsNetworkOf n s
  pub some : 0 < most

-- The choice is within the limits, and these are its loads.
pub record IsLoaded (k : Classes) (l : Limits) (early counted : List ℕ) : Type 0 where
  pub within : IsWithin l (slice_index early)
  pub size : length early ≡ 136
  pub loads : (slot : ℕ) → slot < 16 → slice_index counted slot ≡ load k (slice_index early) slot

-- The early runs of the class start or end at the slot, or do neither.
abbrev pub HasEndAt : ℕ → ℕ → Type 0
HasEndAt class slot = (start_of class true ≡ slot) ⊎ (finish_of class true ≡ slot)

pub record EndsElsewhere (class slot : ℕ) : Type 0 where
  pub start : start_of class true ≢ slot
  pub finish : finish_of class true ≢ slot

-- No run of the class that the limits let move leads load from the slot out of the set.
pub record LeadsInto (l : Limits) (early : ℕ → ℕ) (set class slot : ℕ) : Type 0 where
  pub to_late : start_of class true ≡ slot → holds set (finish_of class true) ≡ false → early class ≤ slice_index l.lo class
  pub to_early : finish_of class true ≡ slot → holds set (start_of class true) ≡ false → slice_index l.hi class ≤ early class

pub record StaysInside (l : Limits) (early : ℕ → ℕ) (set slot : ℕ) : Type 0 where
  pub each : (class : ℕ) → class < 136 → LeadsInto l early set class slot

-- The slot has no room, and nothing leads from it out of the set.
pub record IsStuck (n : Network) (early : ℕ → ℕ) (set slot : ℕ) : Type 0 where
  pub closed : StaysInside n.limits.now early set slot
  pub full : slice_index n.limits.now.cap slot ≤ load n.classes.now early slot

-- The slots that are new in a set are stuck.
pub record AreStuck (n : Network) (early : ℕ → ℕ) (old new : ℕ) : Type 0 where
  pub each : (slot : ℕ) → slot < 16 → holds new slot ≡ true → holds old slot ≡ false → IsStuck n early new slot

pub record Includes (large small : ℕ) : Type 0 where
  pub each : (slot : ℕ) → holds small slot ≡ true → holds large slot ≡ true

abbrev pub IsOf : ℕ → ℕ → ℕ → Type 0
IsOf set slot s = (holds set s ≡ true) ⊎ (s ≡ slot)

-- The classes both of whose ends are in the set or are the slot are left alone.
pub record Keeps (set slot : ℕ) (before after : ℕ → ℕ) : Type 0 where
  pub each : (class : ℕ) → class < 136 → IsOf set slot (start_of class true) → IsOf set slot (finish_of class true) →
      after class ≡ before class

-- 1 where the slots are one, else 0
unfoldable pub same_slot : ℕ → ℕ → ℕ
same_slot a b = cond (a == b) 1 0

-- So much load is taken from one slot and given to another, which has room for it.
pub record Relieves (n : Network) (before after : ℕ → ℕ) (from to moved : ℕ) : Type 0 where
  pub to_fits : to < 16
  pub room : load n.classes.now before to + moved ≤ slice_index n.limits.now.cap to
  pub loads : (slot : ℕ) → slot < 16 →
      load n.classes.now after slot + moved * same_slot from slot ≡ load n.classes.now before slot + moved * same_slot to slot

-- What a step of the search does for the slot: it moves some load on, or finds all new slots stuck.
pub record Pushes (n : Network) (before after : Progress) (slot most moved : ℕ) : Type 0 where
  pub within : IsWithin n.limits.now (slice_index after.early)
  pub size : length after.early ≡ 136
  pub grows : Includes after.reached before.reached
  pub more : before.reached ≤ after.reached
  pub marked : holds after.reached slot ≡ true
  pub bounded : moved ≤ most
  pub kept : Keeps before.reached slot (slice_index before.early) (slice_index after.early)
  pub relieved : 0 < moved → Relieves n (slice_index before.early) (slice_index after.early) slot after.end moved
  pub same : moved ≡ 0 → after.early ≡ before.early
  pub stuck : moved ≡ 0 → AreStuck n (slice_index before.early) before.reached after.reached

-- The classes below the given one lead nowhere from the slot, and so far nothing has moved.
pub record Leaves (n : Network) (before now : Progress) (slot class : ℕ) : Type 0 where
  pub same : now.early ≡ before.early
  pub grows : Includes now.reached before.reached
  pub more : before.reached ≤ now.reached
  pub stuck : AreStuck n (slice_index before.early) before.reached now.reached
  pub leads : (tried : ℕ) → tried < class → LeadsInto n.limits.now (slice_index before.early) now.reached tried slot
