use Rattle.pocsag_findings.proofs.Prelude.{◌≡◌, ◌++◌, All, ℕ, drop, End, Classes, Limits, bounds_of, each_unjudged, MayDescend, found_from}
use Rattle.pocsag_findings.proofs.level.unjudged_children.Given as goal

-- the findings of the children so far, and of those that are left, are those of all
abbrev pub invariant-loop-child : goal.invariant-loop-child
invariant-loop-child l =
    record {
      found :
          (k : Classes) (end : End) (b depth : ℕ) (limits : Limits) (above : ℕ) →
          found_from k end b depth limits above l.found.items
          ++ each_unjudged depth above (bounds_of (drop l.child-index l.child-items))
          ≡ each_unjudged depth above (bounds_of l.child-items);
      allowed : (k : Classes) (b : ℕ) (limits : Limits) → All (λ child. MayDescend k b limits child.descent) l.found.items;
    }
