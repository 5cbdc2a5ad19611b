-- *Choosing*: what an overload set says, and how far a choice is above the caps.
use Rattle.std.specs.Prelude.{ℕ, ◌-◌, ◌<◌, slice_index}
use Rattle.pocsag_slots.specs.declared.class.Classes.{Classes}
use Rattle.pocsag_slots.specs.declared.limit.Limits.{Limits}
use Rattle.pocsag_slots.specs.Loads.{IsLeastLoad, load}
use Rattle.pocsag_slots.specs.Sums.{sum_below, sum_over}
use Rattle.pocsag_flow.specs.declared.fault.ChooseFault.{ChooseFault}
use Rattle.pocsag_flow.specs.declared.fault.ChooseFault.TheVariants.{Overload}

-- The set of slots that the fault names.
abbrev pub set_of : ChooseFault → ℕ
set_of (Overload set) = set

-- The caps of the set's slots are together below its least load.
abbrev pub IsBelowLeast : Classes → Limits → ℕ → Type 0
IsBelowLeast k l set = (least : ℕ) → IsLeastLoad k l set least → sum_over set (slice_index l.cap) < least

-- By how much a choice loads the slots above their caps.
unfoldable pub overload : Classes → Limits → (ℕ → ℕ) → ℕ
overload k l choice = sum_below 16 (λ slot. load k choice slot - slice_index l.cap slot)
