-- What is asked of the ways and of the whole tree of the free search: its trees have no promised shape.
use Rattle.std.specs.Prelude.{◌≡◌, ℕ, ◌≤◌, false, slice_index}
use Rattle.pocsag_slots.specs.declared.class.Classes.{Classes}
use Rattle.pocsag_slots.specs.declared.limit.Limits.{Limits}
use Rattle.pocsag_slots.specs.declared.way.Way.{Way}
use Rattle.pocsag_slots.specs.declared.way.Way.TheVariants.{IdleIn, Early, Late}
use Rattle.pocsag_slots.specs.Loads.{limits_of_all}
use Rattle.pocsag_tree.specs.BoundTrees.{BoundTree, closed_nodes}
use Rattle.pocsag_branch.specs.declared.task.Task.{Task}
use Rattle.pocsag_branch.specs.Examined.{IsRefuted}

-- Whether a way that may be taken is open: the limits do not ask for it yet.
abbrev pub IsUndecidedWay : Classes → ℕ → Limits → Way → Type 0
IsUndecidedWay k batches l (IdleIn slot) = batches ≤ slice_index l.cap slot
IsUndecidedWay k batches l (Early c) = slice_index l.lo c ≡ 0
IsUndecidedWay k batches l (Late c) = slice_index k.count c ≤ slice_index l.hi c

-- The tree of a free search from the limits of all choices.
pub record IsFreeTree (k : Classes) (q : Task) (t : BoundTree) : Type 0 where
  pub refuted : IsRefuted false k q.end q.batches (limits_of_all k q.batches) t
  pub few : closed_nodes t ≤ q.limit
