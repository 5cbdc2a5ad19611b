-- All that is found of a tree holds exactly where the tree is accepted.
use Rattle.pocsag_laws.proofs.Prelude.{cond, nat_lt, Classes, Limits, Stated, Way, BoundTree, BoundTrees, overload, split, cut, close, unexamined, none, more, children_count, Reached, AllByRecursion, list_all, and_parts, nat_tests, list_all-append, AreInOrder, Overloads, holds, AsksForLast, MayTake, class_certain, ways_across, ways_to_close, limits_below, limits_from, narrowed_limits, least_is, overload_is, Accepts, AcceptsEach, Below, From, By, findings_below, findings_by, findings_with, findings_within, asks_for_last, fact_holds, fact_of, least_of_set, room_of}
use Rattle.pocsag_findings.proofs.Prelude.{◌≡◌, ℕ, ◌+◌, ◌<◌, ◌≤◌, ◌++◌, ◌∷◌, [], List, Bool, refl, sym, ◌∙◌, arith, true, false, length, End}
use Rattle.pocsag_words.specs.declared.ending.End.TheVariants as ends
use Rattle.pocsag_check.proofs.RowChecks.{row_long}
use Rattle.pocsag_laws.proofs.Ordered.{across_allowed, closing_allowed, ordered_below, ordered_from, ordered_narrowed}

abbrev pub all : List Stated → Bool
all fs = list_all (λ f. f.holds) fs

-- the room of an overload
pub overload_fact : (k : Classes) (l : Limits) (set : ℕ) → AreInOrder k l →
    (room_of l set < least_of_set k l set → Overloads k l set) × (Overloads k l set → room_of l set < least_of_set k l set)
overload_fact k l set o = overload_is k l set (least_of_set k l set) (least_is k l set o)

asked : (end : End) → AsksForLast end → asks_for_last end ≡ true
asked ends.Open asks = absurd asks
asked ends.Closed asks = refl
asked ends.Idle asks = refl

-- the rule of an accepted node holds
accepted_fact : (t : BoundTree) (k : Classes) (end : End) (b : ℕ) (l : Limits) → AreInOrder k l → Accepts false k end b l t →
    fact_holds end b (fact_of k end l t) ≡ true
accepted_fact (overload set) k end b l o a =
    let more_than : room_of l set < least_of_set k l set = (overload_fact k l set o).1 a.1 in
    let some = a.0.0 in
    let small = a.0.1 in
    grind (arith, nat_tests)
accepted_fact (split c m below from) k end b l o a =
    let small = a.0 in
    let low = a.1 in
    let high = a.2 in
    grind (arith, nat_tests)
accepted_fact (cut set c children) k end b l o a =
    let long : length (ways_across k l set) ≡ children_count children = row_long false k end b l (ways_across k l set) children a.5 in
    let small : c < 136 = a.0 in
    let some : 1 ≤ b = a.1 in
    let start : holds set 0 ≡ true = a.2 in
    let certain : class_certain k l set c ≡ true = a.3 in
    let set_small : set < 65536 = omega (arith, a.4) in
    grind (arith, nat_tests)
accepted_fact (close children) k end b l o a =
    let long : length (ways_to_close k end l) ≡ children_count children = row_long false k end b l (ways_to_close k end l) children a.2 in
    let some : 1 ≤ b = a.1 in
    let asks : asks_for_last end ≡ true = asked end a.0 in
    grind (arith, nat_tests)
accepted_fact unexamined k end b l o a = absurd (cc a)

-- a node whose rule holds, and what is below it
with_listed : (listed held : Bool) (first : Stated) (below unjudged : List Stated) → first.holds ≡ true → held ≡ true → all below ≡ true →
    all (cond listed (first ∷ cond held below unjudged) []) ≡ true
with_listed true held first below unjudged h g a = rw (g, h) a
with_listed false held first below unjudged h g a = refl

both : (xs ys : List Stated) → all xs ≡ true → all ys ≡ true → all (xs ++ ys) ≡ true
both xs ys h g = rw (list_all-append (λ (f : Stated). f.holds) xs ys, h, g) refl

pub each : (xs ys : List Stated) → all (xs ++ ys) ≡ true → (all xs ≡ true) × (all ys ≡ true)
each xs ys h = and_parts (all xs) (all ys) (sym (list_all-append (λ (f : Stated). f.holds) xs ys) ∙ h)

with_all : (k : Classes) (end : End) (b depth : ℕ) (l : Limits) (above : ℕ) (how : Reached) (t : BoundTree) (below : List Stated) →
    AreInOrder k l → Accepts false k end b l t → all below ≡ true → all (findings_with k end b depth l above how t below) ≡ true
with_all k end b depth l above how t below o a rest =
    with_listed (nat_lt above depth) (fact_holds end b (fact_of k end l t)) _ below _ (accepted_fact t k end b l o a)
    (accepted_fact t k end b l o a) rest

mutual
  pub all_below : (t : BoundTree) (k : Classes) (end : End) (b depth : ℕ) (l : Limits) (above : ℕ) → AreInOrder k l →
      Accepts false k end b l t → all (findings_below k end b depth l above t) ≡ true
  all_below (overload set) k end b depth l above o a = refl
  all_below (split c m below from) k end b depth l above o a =
      let low = ordered_below k l c m o a.1 a.2 in
      let high = ordered_from k l c m o a.1 a.2 in
      let under : List Stated = findings_below k end b depth (limits_below l c m) (above + 1) below in
      let beyond : List Stated = findings_below k end b depth (limits_from l c m) (above + 1) from in
      both (findings_with k end b depth (limits_below l c m) above Below below under)
      (findings_with k end b depth (limits_from l c m) above From from beyond)
      (with_all k end b depth (limits_below l c m) above Below below under low a.3
      (all_below below k end b depth (limits_below l c m) (above + 1) low a.3))
      (with_all k end b depth (limits_from l c m) above From from beyond high a.4
      (all_below from k end b depth (limits_from l c m) (above + 1) high a.4))
  all_below (cut set c children) k end b depth l above o a =
      all_by children k end b depth l above (ways_across k l set) o (across_allowed k l set) a.5
  all_below (close children) k end b depth l above o a =
      all_by children k end b depth l above (ways_to_close k end l) o (closing_allowed k end l) a.2
  all_below unexamined k end b depth l above o a = refl

  all_by : (ts : BoundTrees) (k : Classes) (end : End) (b depth : ℕ) (l : Limits) (above : ℕ) (ws : List Way) → AreInOrder k l →
      AllByRecursion (MayTake k l) ws → AcceptsEach false k end b l ws ts → all (findings_by k end b depth l above ws ts) ≡ true
  all_by none k end b depth l above [] o may a = refl
  all_by none k end b depth l above (w ∷ ws) o may a = refl
  all_by (more t ts) k end b depth l above [] o may a = refl
  all_by (more t ts) k end b depth l above (w ∷ ws) o may a =
      let next = ordered_narrowed k l w b o may.0 in
      let under : List Stated = findings_below k end b depth (narrowed_limits k l w b) (above + 1) t in
      both (findings_with k end b depth (narrowed_limits k l w b) above (By w) t under) (findings_by k end b depth l above ws ts)
      (with_all k end b depth (narrowed_limits k l w b) above (By w) t under next a.0
      (all_below t k end b depth (narrowed_limits k l w b) (above + 1) next a.0))
      (all_by ts k end b depth l above ws o may.1 a.1)

pub all_within : (t : BoundTree) (k : Classes) (end : End) (b depth : ℕ) (l : Limits) (above : ℕ) (how : Reached) → AreInOrder k l →
    Accepts false k end b l t → all (findings_within k end b depth l above how t) ≡ true
all_within t k end b depth l above how o a =
    with_all k end b depth l above how t (findings_below k end b depth l (above + 1) t) o a
    (all_below t k end b depth l (above + 1) o a)
