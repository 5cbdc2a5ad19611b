-- A node over the row of its children, and one child more.
use Rattle.pocsag_branch.proofs.Prelude.{◌≡◌, ℕ, ◌+◌, ◌<◌, ◌≤◌, ◌^◌, Bool, true, false, IsTrue, List, [], ◌∷◌, ◌++◌, take, get_or, length, refl, sym, ap, ◌∙◌, arith, append_assoc, append-nil, take_more, End, Classes, Limits, Way, holds, AsksForLast, class_certain, limits_below, limits_from, narrowed_limits, ways_across, ways_to_close, Tree, BoundTree, BoundTrees, cut, close, split, none, more, closed_nodes, closed_nodes_in, deepest, depth_of, bound_tree_of, bounds_of, Accepts, AcceptsEach, AcceptsWithin, Task, AreExamined, AreRefuted, IsExamined, IsRefuted, opens, opens_in, AdmitApart, AdmitSplit, AdmitUnclosed, AreShaped, IsShaped, IsSplitPoint, undecided}
use Rattle.std.specs.Global.{Vec}
use Rattle.pocsag_tree.specs.declared.shape.Tree.TheViews.{Cut, Close}
use Rattle.pocsag_tree.proofs.Counts.{bound_tree_of-cut, bound_tree_of-close}
use Rattle.pocsag_branch.proofs.NodeRows.{fills_join, fills_node}

-- a row with one tree more
abbrev with_last : BoundTrees → BoundTree → BoundTrees
with_last none t = more t none
with_last (more s ts) t = more s (with_last ts t)

bounds_of-push : (ts : List Tree) (t : Tree) → bounds_of (ts ++ t ∷ []) ≡ with_last (bounds_of ts) (bound_tree_of t)
bounds_of-push [] t = refl
bounds_of-push (s ∷ ts) t = ap (λ (r : BoundTrees). more (bound_tree_of s) r) (bounds_of-push ts t)

opens_in-last : (ts : BoundTrees) (t : BoundTree) → opens_in (with_last ts t) ≡ opens_in ts ++ opens t
opens_in-last none t = append-nil (opens t)
opens_in-last (more s ts) t = ap (λ (xs : List Bool). opens s ++ xs) (opens_in-last ts t)
    ∙ sym (append_assoc (opens s) (opens_in ts) (opens t))

closed_nodes_in-last : (ts : BoundTrees) (t : BoundTree) → closed_nodes_in (with_last ts t) ≡ closed_nodes_in ts + closed_nodes t
closed_nodes_in-last none t = omega arith
closed_nodes_in-last (more s ts) t = omega (arith, closed_nodes_in-last ts t)

deepest-last : (ts : BoundTrees) (t : BoundTree) (d : ℕ) → deepest ts ≤ d → depth_of t ≤ d → deepest (with_last ts t) ≤ d
deepest-last none t d h g = omega arith
deepest-last (more s ts) t d h g = let rest : deepest (with_last ts t) ≤ d = deepest-last ts t d (omega arith) g in omega arith

AcceptsEach-last : (u : Bool) (k : Classes) (end : End) (b : ℕ) (l : Limits) (ws : List Way) (ts : BoundTrees) (w : Way) (t : BoundTree) →
    AcceptsEach u k end b l ws ts → Accepts u k end b (narrowed_limits k l w b) t → AcceptsEach u k end b l (ws ++ w ∷ []) (with_last ts t)
AcceptsEach-last u k end b l [] none w t a h = (h, tt)
AcceptsEach-last u k end b l [] (more s ts) w t a h = absurd a
AcceptsEach-last u k end b l (v ∷ ws) none w t a h = absurd a
AcceptsEach-last u k end b l (v ∷ ws) (more s ts) w t a h = (a.0, AcceptsEach-last u k end b l ws ts w t a.1 h)

AreShaped-last : (k : Classes) (end : End) (b : ℕ) (l : Limits) (ws : List Way) (ts : BoundTrees) (w : Way) (t : BoundTree) →
    AreShaped k end b l ws ts → IsShaped k end b (narrowed_limits k l w b) t → AreShaped k end b l (ws ++ w ∷ []) (with_last ts t)
AreShaped-last k end b l [] none w t a h = (h, tt)
AreShaped-last k end b l [] (more s ts) w t a h = absurd a
AreShaped-last k end b l (v ∷ ws) none w t a h = absurd a
AreShaped-last k end b l (v ∷ ws) (more s ts) w t a h = (a.0, AreShaped-last k end b l ws ts w t a.1 h)

refuted_more : (u : Bool) (k : Classes) (end : End) (b : ℕ) (l : Limits) (ws : List Way) (ts : BoundTrees) (w : Way) (t : BoundTree) →
    AreRefuted u k end b l ws ts → IsRefuted u k end b (narrowed_limits k l w b) t →
    undecided k b (narrowed_limits k l w b) < undecided k b l →
    AreRefuted u k end b l (ws ++ w ∷ []) (with_last ts t)
refuted_more u k end b l ws ts w t a h falls =
    record {
      accepted = AcceptsEach-last u k end b l ws ts w t a.accepted h.accepted;
      deep = deepest-last ts t (undecided k b l) a.deep (omega (arith, h.deep));
    }

examined_more : (k : Classes) (q : Task) (l : Limits) (made between after : ℕ) (ws : List Way) (ts : BoundTrees) (w : Way) (t : BoundTree) →
    AreExamined k q l made between ws ts → IsExamined k q (narrowed_limits k l w q.batches) between after t →
    undecided k q.batches (narrowed_limits k l w q.batches) < undecided k q.batches l →
    AreExamined k q l made after (ws ++ w ∷ []) (with_last ts t)
examined_more k q l made between after ws ts w t a h falls =
    record {
      refuted = refuted_more q.fixed k q.end q.batches l ws ts w t a.refuted h.refuted falls;
      few = omega (arith, a.few, h.few, closed_nodes_in-last ts t);
      within = h.within;
      shaped = λ fixed. AreShaped-last k q.end q.batches l ws ts w t (a.shaped fixed) (h.shaped fixed);
      fills = λ fixed. rw (opens_in-last ts t) (fills_join q.limit made between after (opens_in ts) (opens t) (a.fills fixed) (h.fills fixed));
    }

-- the loop over the ways
pub row_goes_on : (k : Classes) (q : Task) (l : Limits) (made between after i : ℕ) (ws : List Way) (ts : List Tree) (d : Way) (t : Tree)
    (pushed : List Tree) (narrowed : Limits) → i < length ws → narrowed ≡ narrowed_limits k l (get_or ws i d) q.batches →
    pushed ≡ ts ++ t ∷ [] →
    AreExamined k q l made between (take i ws) (bounds_of ts) →
    IsExamined k q narrowed between after (bound_tree_of t) → undecided k q.batches narrowed < undecided k q.batches l →
    AreExamined k q l made after (take (i + 1) ws) (bounds_of pushed)
row_goes_on k q l made between after i ws ts d t pushed narrowed h same push a one falls =
    let w : Way = get_or ws i d in
    let ways : take (i + 1) ws ≡ take i ws ++ w ∷ [] = take_more ws i d h in
    let trees : bounds_of pushed ≡ with_last (bounds_of ts) (bound_tree_of t) = ap (λ (xs : List Tree). bounds_of xs) push
    ∙ bounds_of-push ts t in
    rw ways (rw trees (examined_more k q l made between after (take i ws) (bounds_of ts) w (bound_tree_of t) a
    (rw same at one)
    (rw same at falls)))

-- a node is accepted with its children
cut_refuted : (u : Bool) (k : Classes) (end : End) (b : ℕ) (l : Limits) (set c : ℕ) (ts : BoundTrees) → 0 < b → c < 136 →
    IsTrue (holds set 0) →
    IsTrue (class_certain k l set c) → set < 2 ^ 16 → AreRefuted u k end b l (ways_across k l set) ts → IsRefuted u k end b l (cut set c ts)
cut_refuted u k end b l set c ts some known zero certain small a =
    record { accepted = (known, omega arith, zero, certain, small, a.accepted); deep = omega (arith, a.deep) }

close_refuted : (u : Bool) (k : Classes) (end : End) (b : ℕ) (l : Limits) (ts : BoundTrees) → 0 < b → AsksForLast end →
    AreRefuted u k end b l (ways_to_close k end l) ts → IsRefuted u k end b l (close ts)
close_refuted u k end b l ts some closed a =
    record { accepted = (closed, omega arith, a.accepted); deep = omega (arith, a.deep) }

split_refuted : (u : Bool) (k : Classes) (end : End) (b : ℕ) (l : Limits) (c m : ℕ) (s t : BoundTree) → IsSplitPoint k b l c m →
    IsRefuted u k end b (limits_below l c m) s → IsRefuted u k end b (limits_from l c m) t → IsRefuted u k end b l (split c m s t)
split_refuted u k end b l c m s t point below above =
    record {
      accepted = (point.class, point.above, point.within, below.accepted, above.accepted);
      deep = omega (arith, below.deep, above.deep, point.below_falls, point.from_falls);
    }

pub cut_made : (k : Classes) (q : Task) (l : Limits) (made after set c : ℕ) (ws : List Way) (children : Vec Tree) → c < 136 →
    IsTrue (holds set 0) → IsTrue (class_certain k l set c) → set < 2 ^ 16 → (q.fixed ≡ true → AdmitApart k q.batches l set) →
    ws ≡ ways_across k l set → AreExamined k q l (made + 1) after ws (bounds_of children.items) →
    IsExamined k q l made after (bound_tree_of (Cut set c children))
cut_made k q l made after set c ws children known zero certain small apart all a =
    let ts : BoundTrees = bounds_of children.items in
    let rest : AreExamined k q l (made + 1) after (ways_across k l set) ts = rw all at a in
    rw (bound_tree_of-cut (Cut set c children) set c children refl) (record {
      refuted = cut_refuted q.fixed k q.end q.batches l set c ts q.some known zero certain small rest.refuted;
      few = omega (arith, rest.few);
      within = rest.within;
      shaped = λ fixed. (apart fixed, rest.shaped fixed);
      fills = λ fixed. fills_node q.limit made after (opens_in ts) (rest.fills fixed);
    })

pub close_made : (k : Classes) (q : Task) (l : Limits) (made after : ℕ) (ws : List Way) (children : Vec Tree) → AsksForLast q.end →
    (q.fixed ≡ true → AdmitUnclosed k q.end q.batches l) → ws ≡ ways_to_close k q.end l →
    AreExamined k q l (made + 1) after ws (bounds_of children.items) → IsExamined k q l made after (bound_tree_of (Close children))
close_made k q l made after ws children closed unclosed all a =
    let ts : BoundTrees = bounds_of children.items in
    let rest : AreExamined k q l (made + 1) after (ways_to_close k q.end l) ts = rw all at a in
    rw (bound_tree_of-close (Close children) children refl) (record {
      refuted = close_refuted q.fixed k q.end q.batches l ts q.some closed rest.refuted;
      few = omega (arith, rest.few);
      within = rest.within;
      shaped = λ fixed. (unclosed fixed, rest.shaped fixed);
      fills = λ fixed. fills_node q.limit made after (opens_in ts) (rest.fills fixed);
    })

pub split_made : (k : Classes) (q : Task) (l : Limits) (made between after c m : ℕ) (under over : Limits) (s t tree : Tree) →
    bound_tree_of tree ≡ split c m (bound_tree_of s) (bound_tree_of t) → IsSplitPoint k q.batches l c m →
    (q.fixed ≡ true → AdmitSplit k q.batches l c m) → under ≡ limits_below l c m → over ≡ limits_from l c m →
    IsExamined k q under (made + 1) between (bound_tree_of s) → IsExamined k q over between after (bound_tree_of t) →
    IsExamined k q l made after (bound_tree_of tree)
split_made k q l made between after c m under over s t tree seen point parts low high first second =
    let lower : IsExamined k q (limits_below l c m) (made + 1) between (bound_tree_of s) = rw low at first in
    let upper : IsExamined k q (limits_from l c m) between after (bound_tree_of t) = rw high at second in
    rw seen (record {
      refuted = split_refuted q.fixed k q.end q.batches l c m (bound_tree_of s) (bound_tree_of t) point lower.refuted upper.refuted;
      few = omega (arith, lower.few, upper.few);
      within = upper.within;
      shaped = λ fixed. (parts fixed, lower.shaped fixed, upper.shaped fixed);
      fills = λ fixed. fills_node q.limit made after (opens (bound_tree_of s) ++ opens (bound_tree_of t))
          (fills_join q.limit (made + 1) between after (opens (bound_tree_of s)) (opens (bound_tree_of t)) (lower.fills fixed) (upper.fills fixed));
    })

-- a child that the checker accepts for its parent stands for it
pub kept : (k : Classes) (q : Task) (l narrowed : Limits) (made between after deep : ℕ) (t : BoundTree) → made ≤ between →
    IsExamined k q narrowed between after t → undecided k q.batches narrowed < undecided k q.batches l →
    (q.fixed ≡ false) × AcceptsWithin false k q.end q.batches l deep t → IsExamined k q l made after t
kept k q l narrowed made between after deep t later h falls a =
    let free : q.fixed ≡ false = a.0 in
    record {
      refuted = rw free (record { accepted = a.1.1; deep = omega (arith, h.refuted.deep) });
      few = omega (arith, h.few);
      within = h.within;
      shaped = λ fixed. absurd (cc (free, fixed));
      fills = λ fixed. absurd (cc (free, fixed));
    }

pub kept_in_row : (k : Classes) (q : Task) (l narrowed : Limits) (made between after deep : ℕ) (ws : List Way) (ts : BoundTrees)
    (t : BoundTree) → AreExamined k q l made between ws ts →
    IsExamined k q narrowed between after t → undecided k q.batches narrowed < undecided k q.batches l →
    (q.fixed ≡ false) × AcceptsWithin false k q.end q.batches l deep t → (q.fixed ≡ false) × IsExamined k q l made after t
kept_in_row k q l narrowed made between after deep ws ts t row h falls a =
    (a.0, kept k q l narrowed made between after deep t (omega (arith, row.few)) h falls a)

pub kept_below : (k : Classes) (q : Task) (l : Limits) (made after : ℕ) (t : BoundTree) →
    (q.fixed ≡ false) × IsExamined k q l (made + 1) after t → IsExamined k q l made after t
kept_below k q l made after t h =
    let free : q.fixed ≡ false = h.0 in
    record {
      refuted = h.1.refuted;
      few = omega (arith, h.1.few);
      within = h.1.within;
      shaped = λ fixed. absurd (cc (free, fixed));
      fills = λ fixed. absurd (cc (free, fixed));
    }
