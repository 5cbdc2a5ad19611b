-- A tree of which all that is found holds is accepted.
use Rattle.pocsag_laws.proofs.Prelude.{cond, nat_lt, slice_index, Classes, Limits, Stated, Way, BoundTree, BoundTrees, overload, split, cut, close, unexamined, none, more, children_count, Reached, AllByRecursion, and_parts, nat_tests, AreInOrder, Overloads, IsSet, holds, AsksForLast, MayTake, class_certain, ways_across, ways_to_close, limits_below, limits_from, narrowed_limits, Accepts, AcceptsEach, Below, From, By, findings_below, findings_by, findings_within, unjudged_below, fact_holds, fact_of, least_of_set, room_of}
use Rattle.pocsag_findings.proofs.Prelude.{◌≡◌, ℕ, ◌+◌, ◌<◌, ◌≤◌, ◌∷◌, [], List, Bool, refl, sym, ◌∙◌, arith, true, false, length, End}
use Rattle.pocsag_words.specs.declared.ending.End.TheVariants as ends
use Rattle.pocsag_tree.specs.BoundTrees.{depth_of, deepest}
use Rattle.pocsag_laws.proofs.AllHold.{all, each, overload_fact}
use Rattle.pocsag_findings.proofs.Children.{held_close, held_cut}
use Rattle.pocsag_laws.proofs.Ordered.{across_allowed, closing_allowed, ordered_below, ordered_from, ordered_narrowed}

held_overload : (k : Classes) (end : End) (b : ℕ) (l : Limits) (set : ℕ) → AreInOrder k l →
    fact_holds end b (fact_of k end l (overload set)) ≡ true → IsSet set × Overloads k l set
held_overload k end b l set o h =
    let least : room_of l set < least_of_set k l set = grind (arith, nat_tests) in
    let some : 1 ≤ set = grind (arith, nat_tests) in
    let small : set < 65536 = grind (arith, nat_tests) in
    ((some, small), (overload_fact k l set o).0 least)

-- what the rule of a split says
held_split : (k : Classes) (end : End) (b : ℕ) (l : Limits) (c m : ℕ) (below from : BoundTree) →
    fact_holds end b (fact_of k end l (split c m below from)) ≡ true → (c < 136) × (slice_index l.lo c < m) × (m ≤ slice_index l.hi c)
held_split k end b l c m below from h = grind (arith, nat_tests)

-- what the rule of a cut says beside its ways
record IsCutAt (k : Classes) (l : Limits) (set c : ℕ) : Type 0 where
  class : c < 136
  start : holds set 0 ≡ true
  certain : class_certain k l set c ≡ true
  small : set < 65536

cut_at : (k : Classes) (end : End) (b : ℕ) (l : Limits) (set c : ℕ) (children : BoundTrees) →
    fact_holds end b (fact_of k end l (cut set c children)) ≡ true → IsCutAt k l set c
cut_at k end b l set c children h = record {
  class = grind (arith, nat_tests);
  start = grind (arith, nat_tests);
  certain = grind (arith, nat_tests);
  small = grind (arith, nat_tests);
}

asking_end : (k : Classes) (end : End) (b : ℕ) (l : Limits) (children : BoundTrees) →
    fact_holds end b (fact_of k end l (close children)) ≡ true → AsksForLast end
asking_end k ends.Open b l children h = absurd (cc h)
asking_end k ends.Closed b l children h = tt
asking_end k ends.Idle b l children h = tt

-- a listed node that holds with those below it
parts : (listed held : Bool) (first : Stated) (below unjudged : List Stated) → listed ≡ true → first.holds ≡ held →
    all (cond listed (first ∷ cond held below unjudged) []) ≡ true → (held ≡ true) × (all below ≡ true)
parts false held first below unjudged l e h = absurd (cc l)
parts true true first below unjudged l e h = (refl, (and_parts first.holds (all below) h).1)
parts true false first below unjudged l e h = absurd (cc (sym e ∙ (and_parts first.holds (all unjudged) h).0))

within_parts : (k : Classes) (end : End) (b depth : ℕ) (l : Limits) (above : ℕ) (how : Reached) (t : BoundTree) → above < depth →
    all (findings_within k end b depth l above how t) ≡ true →
    (fact_holds end b (fact_of k end l t) ≡ true) × (all (findings_below k end b depth l (above + 1) t) ≡ true)
within_parts k end b depth l above how t h a =
    let listed : nat_lt above depth ≡ true = grind (arith, nat_tests) in
    parts (nat_lt above depth) (fact_holds end b (fact_of k end l t)) _ (findings_below k end b depth l (above + 1) t)
    (unjudged_below depth (above + 1) t) listed refl a

mutual
  pub accepts : (t : BoundTree) (k : Classes) (end : End) (b depth : ℕ) (l : Limits) (above : ℕ) (how : Reached) → AreInOrder k l →
      above + depth_of t ≤ depth → all (findings_within k end b depth l above how t) ≡ true → Accepts false k end b l t
  accepts (overload set) k end b depth l above how o deep a =
      held_overload k end b l set o (within_parts k end b depth l above how (overload set) (omega arith) a).0
  accepts (split c m below from) k end b depth l above how o deep a =
      let node = within_parts k end b depth l above how (split c m below from) (omega arith) a in
      let says = held_split k end b l c m below from node.0 in
      let halves = each (findings_within k end b depth (limits_below l c m) (above + 1) Below below)
      (findings_within k end b depth (limits_from l c m) (above + 1) From from) node.1 in (
        says.0,
        says.1,
        says.2,
        accepts below k end b depth (limits_below l c m) (above + 1) Below (ordered_below k l c m o says.1 says.2) (omega arith) halves.0,
        accepts from k end b depth (limits_from l c m) (above + 1) From (ordered_from k l c m o says.1 says.2) (omega arith) halves.1,
      )
  accepts (cut set c children) k end b depth l above how o deep a =
      let node = within_parts k end b depth l above how (cut set c children) (omega arith) a in
      let says = held_cut k end b l set c children node.0 in
      let at = cut_at k end b l set c children node.0 in (
        at.class,
        omega (arith, says.0),
        at.start,
        at.certain,
        omega (arith, at.small),
        accepts_each children k end b depth l (above + 1) (ways_across k l set) o (across_allowed k l set) says.1 (omega arith) node.1,
      )
  accepts (close children) k end b depth l above how o deep a =
      let node = within_parts k end b depth l above how (close children) (omega arith) a in
      let says = held_close k end b l children node.0 in (
        asking_end k end b l children node.0,
        omega (arith, says.0),
        accepts_each children k end b depth l (above + 1) (ways_to_close k end l) o (closing_allowed k end l) says.1 (omega arith) node.1,
      )
  accepts unexamined k end b depth l above how o deep a =
      absurd (cc (within_parts k end b depth l above how unexamined (omega arith) a).0)

  accepts_each : (ts : BoundTrees) (k : Classes) (end : End) (b depth : ℕ) (l : Limits) (above : ℕ) (ws : List Way) → AreInOrder k l →
      AllByRecursion (MayTake k l) ws → length ws ≡ children_count ts → above + deepest ts ≤ depth →
      all (findings_by k end b depth l above ws ts) ≡ true → AcceptsEach false k end b l ws ts
  accepts_each none k end b depth l above [] o may long deep a = tt
  accepts_each none k end b depth l above (w ∷ ws) o may long deep a = absurd (omega arith)
  accepts_each (more t ts) k end b depth l above [] o may long deep a = absurd (omega arith)
  accepts_each (more t ts) k end b depth l above (w ∷ ws) o may long deep a =
      let rows = each (findings_within k end b depth (narrowed_limits k l w b) above (By w) t) (findings_by k end b depth l above ws ts) a in (
        accepts t k end b depth (narrowed_limits k l w b) above (By w) (ordered_narrowed k l w b o may.0) (omega arith) rows.0,
        accepts_each ts k end b depth l above ws o may.1 (omega arith) (omega arith) rows.1,
      )
