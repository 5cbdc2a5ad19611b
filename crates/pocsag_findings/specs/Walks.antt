-- *Walks*: what is left to be found of a certificate, of which some nodes have been taken (this project's own).
use Rattle.std.specs.Prelude.{ℕ, ◌<◌, Bool, true, false, cond, List, [], ◌∷◌, ◌++◌, All, drop}
use Rattle.std.specs.List.{flat_map}
use Rattle.pocsag_words.specs.declared.ending.End.{End}
use Rattle.pocsag_slots.specs.declared.class.Classes.{Classes}
use Rattle.pocsag_slots.specs.declared.limit.Limits.{Limits}
use Rattle.pocsag_slots.specs.Loads.{AreInOrder}
use Rattle.pocsag_tree.specs.BoundTrees.{BoundTree}
use Rattle.pocsag_tree.specs.Views.{bound_tree_of}
use Rattle.pocsag_findings.specs.declared.finding.Reached.{Reached}
use Rattle.pocsag_findings.specs.declared.finding.Reached.TheVariants.{Root, Below, From, By, Unreached}
use Rattle.pocsag_findings.specs.declared.level.Child.{Child}
use Rattle.pocsag_findings.specs.declared.level.Level.{Level}
use Rattle.pocsag_findings.specs.declared.position.NodeContext.{NodeContext}
use Rattle.pocsag_findings.specs.declared.position.Position.{Position}
use Rattle.pocsag_findings.specs.Findings.{finding_of, findings_within, unjudged_finding, unjudged_within}
use Rattle.pocsag_findings.specs.Descents.{MayDescend, position_by}
use Rattle.pocsag_findings.specs.Views.{Stated}

-- Whether nothing says under which limits a node stands that is reached so.
abbrev pub is_unreached : Reached → Bool
is_unreached Root = false
is_unreached Below = false
is_unreached From = false
is_unreached (By way) = false
is_unreached Unreached = true

-- What is found of a node that stands there.
abbrev pub stated_at : Classes → End → ℕ → Position → BoundTree → Stated
stated_at k end b p t =
    cond (is_unreached p.reached) (unjudged_finding p.above) (finding_of k end b p.limits p.above p.reached t)

-- The findings of a node that stands there, and of those below it.
abbrev pub found_at : Classes → End → ℕ → ℕ → Position → BoundTree → List Stated
found_at k end b depth p t =
    cond (is_unreached p.reached) (unjudged_within depth p.above t)
    (findings_within k end b depth p.limits p.above p.reached t)

-- The findings of these children of a node under its limits, and of the nodes below them; so many nodes stand above
-- the children.
abbrev pub found_from : Classes → End → ℕ → ℕ → Limits → ℕ → List Child → List Stated
found_from k end b depth l above =
    flat_map (λ child. found_at k end b depth (position_by k b l above child.descent) (bound_tree_of child.tree.now))

-- The findings of the children that are left of these nodes, the last node first.
abbrev pub levels_left : Classes → End → ℕ → ℕ → List Level → List Stated
levels_left k end b depth [] = []
levels_left k end b depth (level ∷ below) =
    levels_left k end b depth below
    ++ found_from k end b depth level.limits level.above (drop level.next level.children.items)

-- A level under these limits: the children stand no deeper than asked for, and the limits allow the step to each.
pub record IsSound (context : NodeContext) (level : Level) : Type 0 where
  pub ordered : AreInOrder context.classes.now level.limits
  pub above : level.above < context.depth
  pub allowed : All (λ child. MayDescend context.classes.now context.batches level.limits child.descent) level.children.items
