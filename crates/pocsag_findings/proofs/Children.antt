-- The findings of children, one child after the other.
use Rattle.pocsag_findings.proofs.Prelude.{◌≡◌, ℕ, ◌+◌, ◌<◌, ◌++◌, ◌∷◌, [], List, ◌∙◌, ap, sym, refl, true, arith, length, Classes, End, Limits, Stated, Way, BoundTrees, cut, close, children_count, append_assoc, drop, get_or, nat_tests, drop_more, flat_map_more, bound_tree_of, bounds_of, ways_across, ways_to_close, Child, each_unjudged, findings_by, fact_holds, fact_of, position_by, found_at, found_from}
use Rattle.pocsag_tree.specs.declared.shape.Tree.{Tree}
use Rattle.pocsag_findings.specs.declared.position.Descent.TheVariants.{Unjudged, Take}

module _ (k : Classes) (end : End) (b depth : ℕ) (l : Limits) (above : ℕ) where
  -- one child more, whose findings stood first among those of the children that were left
  pub child_more : (found new : List Child) (one : Child) (rest ahead whole : List Stated) → new ≡ found ++ one ∷ [] →
      ahead ≡ found_at k end b depth (position_by k b l above one.descent) (bound_tree_of one.tree.now) ++ rest →
      found_from k end b depth l above found ++ ahead ≡ whole → found_from k end b depth l above new ++ rest ≡ whole
  child_more found new one rest ahead whole added first before =
      let so_far : List Stated = found_from k end b depth l above found in
      let own : List Stated = found_at k end b depth (position_by k b l above one.descent) (bound_tree_of one.tree.now) in
      ap (λ (v : List Child). found_from k end b depth l above v ++ rest) added
      ∙ ap (λ (v : List Stated). v ++ rest)
      (sym (flat_map_more (λ (child : Child). found_at k end b depth (position_by k b l above child.descent) (bound_tree_of child.tree.now)) [] found one))
      ∙ append_assoc so_far own rest ∙ sym (ap (λ (v : List Stated). so_far ++ v) first) ∙ before

  -- the same of the children that are left, each by its way
  pub way_more : (ways : List Way) (children : List Tree) (i : ℕ) (way some : Way) (child : Tree) (one : Child)
      (found new : List Child) (whole : List Stated) → i < length ways → i < length children → way ≡ get_or ways i some →
      child ≡ get_or children i child → one.descent ≡ Take way → one.tree.now ≡ child → new ≡ found ++ one ∷ [] →
      found_from k end b depth l above found ++ findings_by k end b depth l above (drop i ways) (bounds_of (drop i children)) ≡ whole →
      found_from k end b depth l above new
      ++ findings_by k end b depth l above (drop (i + 1) ways) (bounds_of (drop (i + 1) children)) ≡ whole
  way_more ways children i way some child one found new whole h g on is step tree added before =
      let out : drop i ways ≡ way ∷ drop (i + 1) ways = rw (drop_more ways i some h, ← on) refl in
      let left : drop i children ≡ child ∷ drop (i + 1) children = rw (drop_more children i child g, ← is) refl in
      child_more found new one _ _ whole added (rw (out, left, step, tree) refl) before

  -- and of children that are not judged
  pub unjudged_more : (children : List Tree) (i : ℕ) (child : Tree) (one : Child) (found new : List Child) (whole : List Stated) →
      i < length children → child ≡ get_or children i child → one.descent ≡ Unjudged → one.tree.now ≡ child → new ≡ found ++ one ∷ [] →
      found_from k end b depth l above found ++ each_unjudged depth above (bounds_of (drop i children)) ≡ whole →
      found_from k end b depth l above new ++ each_unjudged depth above (bounds_of (drop (i + 1) children)) ≡ whole
  unjudged_more children i child one found new whole h is step tree added before =
      let left : drop i children ≡ child ∷ drop (i + 1) children = rw (drop_more children i child h, ← is) refl in
      child_more found new one _ _ whole added (rw (left, step, tree) refl) before

-- what a rule that holds says
pub held_cut : (k : Classes) (end : End) (b : ℕ) (l : Limits) (set c : ℕ) (children : BoundTrees) →
    fact_holds end b (fact_of k end l (cut set c children)) ≡ true → (0 < b) × (length (ways_across k l set) ≡ children_count children)
held_cut k end b l set c children h = grind (arith, nat_tests)

pub held_close : (k : Classes) (end : End) (b : ℕ) (l : Limits) (children : BoundTrees) →
    fact_holds end b (fact_of k end l (close children)) ≡ true → (0 < b) × (length (ways_to_close k end l) ≡ children_count children)
held_close k end b l children h = grind (arith, nat_tests)
