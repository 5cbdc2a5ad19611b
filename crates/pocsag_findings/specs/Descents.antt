-- *Descents*: what leads from a node to a child, and where the child stands then (this project's own).
use Rattle.std.specs.Prelude.{ℕ, ◌<◌, ◌≤◌, ⊤, slice_index}
use Rattle.std.specs.Coded.{×_prop, Unit-prop, le_prop}
use Rattle.std.proofs.Props.{props}
use Rattle.pocsag_slots.specs.declared.class.Classes.{Classes}
use Rattle.pocsag_slots.specs.declared.limit.Limits.{Limits}
use Rattle.pocsag_slots.specs.Classes.{class_count}
use Rattle.pocsag_slots.specs.declared.way.Way.{Way}
use Rattle.pocsag_slots.specs.declared.way.Way.TheVariants.{IdleIn, Early, Late}
use Rattle.pocsag_slots.specs.Ways.{MayTake, limits_below, limits_from, narrowed_limits}
use Rattle.pocsag_findings.specs.declared.finding.Reached.TheVariants.{Root, Below, From, By, Unreached}
use Rattle.pocsag_findings.specs.declared.position.Position.{Position}
use Rattle.pocsag_findings.specs.declared.position.Descent.{Descent}
use Rattle.pocsag_findings.specs.declared.position.Descent.TheVariants.{Start, Low, High, Take, Unjudged}

-- Where a child stands, below so many nodes, that this step leads to from a node under these limits.
abbrev pub position_by : Classes → ℕ → Limits → ℕ → Descent → Position
position_by k b l above Start = record { limits = l; above = above; reached = Root }
position_by k b l above (Low c m) = record { limits = limits_below l c m; above = above; reached = Below }
position_by k b l above (High c m) = record { limits = limits_from l c m; above = above; reached = From }
position_by k b l above (Take way) = record { limits = narrowed_limits k l way b; above = above; reached = By way }
position_by k b l above Unjudged = record { limits = l; above = above; reached = Unreached }

-- The limits allow the step: a split's m parts what they allow, and the way is open.
abbrev pub MayDescend : Classes → ℕ → Limits → Descent → Type 0
MayDescend k b l Start = ⊤
MayDescend k b l (Low c m) = (c < class_count) × (slice_index l.lo c < m) × (m ≤ slice_index l.hi c)
MayDescend k b l (High c m) = (c < class_count) × (slice_index l.lo c < m) × (m ≤ slice_index l.hi c)
MayDescend k b l (Take way) = (0 < b) × MayTake k l way
MayDescend k b l Unjudged = ⊤

-- There is one proof of it at most.
pub MayTake-prop : (k : Classes) (l : Limits) (way : Way) → IsProp (MayTake k l way)
MayTake-prop k l (IdleIn slot) = le_prop
MayTake-prop k l (Early c) = ×_prop le_prop le_prop
MayTake-prop k l (Late c) = ×_prop le_prop le_prop

pub MayDescend-prop : (k : Classes) (b : ℕ) (l : Limits) (step : Descent) → IsProp (MayDescend k b l step)
MayDescend-prop k b l Start = Unit-prop
MayDescend-prop k b l (Low c m) = Prim.hlevel props
MayDescend-prop k b l (High c m) = Prim.hlevel props
MayDescend-prop k b l (Take way) = ×_prop le_prop (MayTake-prop k l way)
MayDescend-prop k b l Unjudged = Unit-prop

-- What shows that of the ghost field of a walk.
pub ruleset walk_props = (MayDescend-prop, props)
