-- *Findings*: what a certificate shows, node by node (this project's own).
use Rattle.std.specs.Prelude.{ℕ, ◌+◌, ◌-◌, nat_lt, false, cond, IsTrue, List, [], ◌∷◌, ◌++◌}
use Rattle.std.specs.List.{list_all}
use Rattle.pocsag_words.specs.declared.ending.End.{End}
use Rattle.pocsag_slots.specs.declared.class.Classes.{Classes}
use Rattle.pocsag_slots.specs.declared.limit.Limits.{Limits}
use Rattle.pocsag_slots.specs.declared.way.Way.{Way}
use Rattle.pocsag_slots.specs.Loads.{limits_of_all}
use Rattle.pocsag_slots.specs.Ways.{ways_across, ways_to_close, narrowed_limits, limits_below, limits_from}
use Rattle.pocsag_tree.specs.BoundTrees.{BoundTree, BoundTrees, overload, split, cut, close, unexamined, none, more}
use Rattle.pocsag_findings.specs.declared.finding.Fact.TheVariants.{Unjudged}
use Rattle.pocsag_findings.specs.declared.finding.Reached.{Reached}
use Rattle.pocsag_findings.specs.declared.finding.Reached.TheVariants.{Root, Below, From, By, Unreached}
use Rattle.pocsag_findings.specs.Rules.{fact_of, fact_holds, columns_at, narrowed_of, shares_at}
use Rattle.pocsag_findings.specs.Views.{Stated}

-- What is found of one node: so many nodes stand above it, and it is reached so.
abbrev pub finding_of : Classes → End → ℕ → Limits → ℕ → Reached → BoundTree → Stated
finding_of k end b l above reached t = record {
  depth = above + 1;
  reached = reached;
  fact = fact_of k end l t;
  shares = shares_at k l t;
  columns = columns_at k l above;
  narrowed = narrowed_of k l;
  caps = l.cap;
  holds = fact_holds end b (fact_of k end l t);
}

-- What is found of a node below one whose rule does not hold.
abbrev pub unjudged_finding : ℕ → Stated
unjudged_finding above = record {
  depth = above + 1;
  reached = Unreached;
  fact = Unjudged;
  shares = [];
  columns = [];
  narrowed = [];
  caps = [];
  holds = false;
}

-- The finding of a node and those below it, where the node is no deeper than so.
abbrev pub where_listed : ℕ → ℕ → Stated → List Stated → List Stated
where_listed depth above first rest = cond (nat_lt above depth) (first ∷ rest) []

abbrev mutual
  -- The findings of the nodes below one that cannot be judged, or whose rule does not hold, each node before its
  -- children; so many nodes stand above the children.
  pub unjudged_below : ℕ → ℕ → BoundTree → List Stated
  unjudged_below depth above (overload set) = []
  unjudged_below depth above (split c m below from) =
      where_listed depth above (unjudged_finding above) (unjudged_below depth (above + 1) below)
      ++ where_listed depth above (unjudged_finding above) (unjudged_below depth (above + 1) from)
  unjudged_below depth above (cut set c children) = each_unjudged depth above children
  unjudged_below depth above (close children) = each_unjudged depth above children
  unjudged_below depth above unexamined = []

  pub each_unjudged : ℕ → ℕ → BoundTrees → List Stated
  each_unjudged depth above none = []
  each_unjudged depth above (more t ts) =
      where_listed depth above (unjudged_finding above) (unjudged_below depth (above + 1) t) ++ each_unjudged depth above ts

-- The findings of a node that cannot be judged, and of those below it.
abbrev pub unjudged_within : ℕ → ℕ → BoundTree → List Stated
unjudged_within depth above t = where_listed depth above (unjudged_finding above) (unjudged_below depth (above + 1) t)

-- The findings of a node, and of those below it: these ones where its rule holds, and else that they cannot be judged.
abbrev pub findings_with : Classes → End → ℕ → ℕ → Limits → ℕ → Reached → BoundTree → List Stated → List Stated
findings_with k end b depth l above reached t below =
    where_listed depth above (finding_of k end b l above reached t)
    (cond (fact_holds end b (fact_of k end l t)) below (unjudged_below depth (above + 1) t))

abbrev mutual
  -- The findings of the nodes below one whose rule holds under its limits for b batches, no deeper than so: each
  -- child stands under the limits that lead to it, and before its own children.
  pub findings_below : Classes → End → ℕ → ℕ → Limits → ℕ → BoundTree → List Stated
  findings_below k end b depth l above (overload set) = []
  findings_below k end b depth l above (split c m below from) =
      findings_with k end b depth (limits_below l c m) above Below below
      (findings_below k end b depth (limits_below l c m) (above + 1) below)
      ++ findings_with k end b depth (limits_from l c m) above From from
      (findings_below k end b depth (limits_from l c m) (above + 1) from)
  findings_below k end b depth l above (cut set c children) = findings_by k end b depth l above (ways_across k l set) children
  findings_below k end b depth l above (close children) = findings_by k end b depth l above (ways_to_close k end l) children
  findings_below k end b depth l above unexamined = []

  -- The findings of the children of a node, one for each way, in order, under the limits that the way leaves.
  pub findings_by : Classes → End → ℕ → ℕ → Limits → ℕ → List Way → BoundTrees → List Stated
  findings_by k end b depth l above [] none = []
  findings_by k end b depth l above [] (more t ts) = []
  findings_by k end b depth l above (w ∷ ws) none = []
  findings_by k end b depth l above (w ∷ ws) (more t ts) =
      findings_with k end b depth (narrowed_limits k l w b) above (By w) t
      (findings_below k end b depth (narrowed_limits k l w b) (above + 1) t)
      ++ findings_by k end b depth l above ws ts

-- The findings of a node and of those below it, under its limits.
abbrev pub findings_within : Classes → End → ℕ → ℕ → Limits → ℕ → Reached → BoundTree → List Stated
findings_within k end b depth l above reached t =
    findings_with k end b depth l above reached t (findings_below k end b depth l (above + 1) t)

-- *Findings* of a tree that is taken to show that fewer than so many batches do not suffice.
abbrev pub findings_of : Classes → End → ℕ → ℕ → BoundTree → List Stated
findings_of k end batches depth t =
    findings_within k end (batches - 1) depth (limits_of_all k (batches - 1)) 0 Root t

-- All that is found holds.
abbrev pub AllHold : List Stated → Type 0
AllHold fs = IsTrue (list_all (λ f. f.holds) fs)
