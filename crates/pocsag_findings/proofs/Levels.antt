-- The levels of a walk, and a node that is taken.
use Rattle.pocsag_findings.proofs.Prelude.{◌≡◌, ℕ, ◌+◌, ◌<◌, ◌≤◌, ◌++◌, ◌∷◌, [], List, Bool, false, ◌∙◌, ap, sym, refl, true, arith, nat_lt, cond, length, Classes, End, Limits, Stated, Way, BoundTree, BoundTrees, overload, split, cut, close, unexamined, none, more, append_assoc, drop, if◌then◌else◌, get_or, nat_tests, append-nil, drop_all, drop_more, All-push, bound_tree_of, ways_across, ways_to_close, Child, Level, each_unjudged, finding_of, findings_below, findings_by, findings_within, unjudged_below, unjudged_finding, unjudged_within, position_by, found_at, found_from, is_unreached, levels_left, stated_at}
use Rattle.std.specs.Prelude.{All}
use Rattle.pocsag_findings.specs.declared.position.Position.{Position}

-- below the depth nothing is listed
each_deeper : (depth above : ℕ) → nat_lt above depth ≡ false → (ts : BoundTrees) → each_unjudged depth above ts ≡ []
each_deeper depth above deep none = refl
each_deeper depth above deep (more t ts) = rw (deep, each_deeper depth above deep ts) refl

unjudged_deeper : (depth above : ℕ) → nat_lt above depth ≡ false → (t : BoundTree) → unjudged_below depth above t ≡ []
unjudged_deeper depth above deep (overload set) = refl
unjudged_deeper depth above deep (split c m below from) = rw deep refl
unjudged_deeper depth above deep (cut set c children) = each_deeper depth above deep children
unjudged_deeper depth above deep (close children) = each_deeper depth above deep children
unjudged_deeper depth above deep unexamined = refl

ways_deeper : (k : Classes) (end : End) (b depth : ℕ) (l : Limits) (above : ℕ) → nat_lt above depth ≡ false → (ways : List Way) (ts : BoundTrees) →
    findings_by k end b depth l above ways ts ≡ []
ways_deeper k end b depth l above deep [] none = refl
ways_deeper k end b depth l above deep [] (more t ts) = refl
ways_deeper k end b depth l above deep (w ∷ ws) none = refl
ways_deeper k end b depth l above deep (w ∷ ws) (more t ts) = rw (deep, ways_deeper k end b depth l above deep ws ts) refl

judged_deeper : (k : Classes) (end : End) (b depth : ℕ) (l : Limits) (above : ℕ) → nat_lt above depth ≡ false → (t : BoundTree) →
    findings_below k end b depth l above t ≡ []
judged_deeper k end b depth l above deep (overload set) = refl
judged_deeper k end b depth l above deep (split c m below from) = rw deep refl
judged_deeper k end b depth l above deep (cut set c children) = ways_deeper k end b depth l above deep (ways_across k l set) children
judged_deeper k end b depth l above deep (close children) = ways_deeper k end b depth l above deep (ways_to_close k end l) children
judged_deeper k end b depth l above deep unexamined = refl

module _ (k : Classes) (end : End) (b depth : ℕ) where
  -- in one way or the other
  pub none_deeper : (l : Limits) (above : ℕ) → depth ≤ above → (t : BoundTree) (holds : Bool) →
      [] ≡ cond holds (findings_below k end b depth l above t) (unjudged_below depth above t)
  none_deeper l above h t true =
      let deep : nat_lt above depth ≡ false = grind (arith, nat_tests) in sym (judged_deeper k end b depth l above deep t)
  none_deeper l above h t false =
      let deep : nat_lt above depth ≡ false = grind (arith, nat_tests) in sym (unjudged_deeper depth above deep t)

  -- a node that is taken, with the findings below it
  pub node_taken : (p : Position) (t : BoundTree) (f : Stated) (below rest : List Stated) → p.above < depth → f ≡ stated_at k end b p t →
      below ≡ cond f.holds (findings_below k end b depth p.limits (p.above + 1) t) (unjudged_below depth (p.above + 1) t) →
      found_at k end b depth p t ++ rest ≡ f ∷ (below ++ rest)
  node_taken p t f below rest h is under = by (is_unreached p.reached) is
    where
      listed : nat_lt p.above depth ≡ true
      listed = grind (arith, nat_tests)

      by : (u : Bool) → f ≡ cond u (unjudged_finding p.above) (finding_of k end b p.limits p.above p.reached t) →
          cond u (unjudged_within depth p.above t) (findings_within k end b depth p.limits p.above p.reached t) ++ rest ≡ f ∷ (below ++ rest)
      by true e = rw (under, e, listed) refl
      by false e = rw (under, e, listed) refl

  -- what a level more leaves
  pub level_more : (levels : List Level) (level : Level) →
      levels_left k end b depth (levels ++ level ∷ [])
      ≡ found_from k end b depth level.limits level.above (drop level.next level.children.items) ++ levels_left k end b depth levels
  level_more [] level = sym (append-nil _)
  level_more (x ∷ levels) level =
      ap (λ (v : List Stated). v ++ found_from k end b depth x.limits x.above (drop x.next x.children.items)) (level_more levels level)
      ∙ append_assoc (found_from k end b depth level.limits level.above (drop level.next level.children.items)) (levels_left k end b depth levels) _

  -- a child that is taken from the last level
  pub child_taken : (old levels new : List Level) (level : Level) (child : Child) (rest : List Stated) →
      old ≡ levels ++ level ∷ [] → new ≡ levels ++ record level { next = level.next + 1 } ∷ [] → level.next < length level.children.items →
      child ≡ get_or level.children.items level.next child →
      found_at k end b depth (position_by k b level.limits level.above child.descent) (bound_tree_of child.tree.now)
      ++ levels_left k end b depth new ≡ rest →
      levels_left k end b depth old ≡ rest
  child_taken old levels new level child rest was is h taken all =
      let l : Limits = level.limits in
      let first : List Stated = found_at k end b depth (position_by k b l level.above child.descent) (bound_tree_of child.tree.now) in
      let others : List Stated = found_from k end b depth l level.above (drop (level.next + 1) level.children.items) in
      let row : drop level.next level.children.items ≡ child ∷ drop (level.next + 1) level.children.items =
      rw (drop_more level.children.items level.next child h, ← taken) refl in
      let remain : levels_left k end b depth new ≡ others ++ levels_left k end b depth levels =
      ap (levels_left k end b depth) is ∙ level_more levels (record level { next = level.next + 1 }) in
      ap (levels_left k end b depth) was ∙ level_more levels level
      ∙ ap (λ (v : List Child). found_from k end b depth l level.above v ++ levels_left k end b depth levels) row
      ∙ append_assoc first others (levels_left k end b depth levels) ∙ ap (λ (v : List Stated). first ++ v) (sym remain) ∙ all

  -- a level of which no child is left
  pub level_passed : (old levels : List Level) (level : Level) → old ≡ levels ++ level ∷ [] → length level.children.items ≤ level.next →
      levels_left k end b depth levels ≡ levels_left k end b depth old
  level_passed old levels level was h =
      sym (ap (levels_left k end b depth) was ∙ level_more levels level
      ∙ ap (λ (v : List Child). found_from k end b depth level.limits level.above v ++ levels_left k end b depth levels) (drop_all level.next level.children.items h))

-- levels to which one is added, if there is memory
pub all_pushed : (P : Level → Type 0) (ok : Bool) (levels : List Level) (level : Level) → All P levels → P level →
    All P (if ok then levels ++ level ∷ [] else levels)
all_pushed P true levels level all one = All-push P levels level all one
all_pushed P false levels level all one = all
