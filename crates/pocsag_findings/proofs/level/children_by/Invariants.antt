use Rattle.pocsag_findings.proofs.Prelude.{◌≡◌, ◌<◌, ◌++◌, All, ℕ, drop, End, Classes, Limits, MayTake, bounds_of, findings_by, MayDescend, found_from}
use Rattle.pocsag_findings.proofs.level.children_by.Given as goal

-- the findings of the children so far, and of those that are left, are those of all
abbrev pub invariant-loop-index : goal.invariant-loop-index
invariant-loop-index l =
    record {
      found :
          (k : Classes) (end : End) (b depth : ℕ) (limits : Limits) (above : ℕ) →
          found_from k end b depth limits above l.found.items
          ++ findings_by k end b depth limits above (drop l.index l.ways) (bounds_of (drop l.index l.children))
          ≡ findings_by k end b depth limits above l.ways (bounds_of l.children);
      allowed :
          (k : Classes) (b : ℕ) (limits : Limits) → 0 < b → All (MayTake k limits) l.ways →
          All (λ child. MayDescend k b limits child.descent) l.found.items;
    }
