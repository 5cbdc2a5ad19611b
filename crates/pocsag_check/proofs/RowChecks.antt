-- The loop over the children of a node.
use Rattle.pocsag_check.proofs.Prelude.{◌≡◌, ℕ, zero, suc, ◌+◌, ◌<◌, ◌≤◌, Bool, List, [], ◌∷◌, length, get_or, refl, sym, ap, ◌∙◌, arith, End, BoundTrees, none, more, children_count, bound_tree_of, Classes, Limits, Way, narrowed_limits, AcceptsEach, AcceptsWithin, drop, add-one, drop_all, bounds_of, AcceptsEachWithin}
use Rattle.std.proofs.Math.Seq.{drop-cons}
use Rattle.pocsag_tree.specs.declared.shape.Tree.{Tree}
use Rattle.pocsag_tree.proofs.Counts.{count_of_bounds}

pub row_long : (u : Bool) (k : Classes) (end : End) (b : ℕ) (l : Limits) (ws : List Way) (ts : BoundTrees) → AcceptsEach u k end b l ws ts →
    length ws ≡ children_count ts
row_long u k end b l [] none a = refl
row_long u k end b l [] (more t ts) a = absurd a
row_long u k end b l (w ∷ ws) none a = absurd a
row_long u k end b l (w ∷ ws) (more t ts) a = let rest : length ws ≡ children_count ts = row_long u k end b l ws ts a.1 in omega arith

pub as_long : (u : Bool) (k : Classes) (end : End) (b : ℕ) (l : Limits) (ws : List Way) (ts : List Tree) →
    AcceptsEach u k end b l ws (bounds_of ts) → length ws ≡ length ts
as_long u k end b l ws ts a = row_long u k end b l ws (bounds_of ts) a ∙ count_of_bounds ts

-- where the children so far are accepted, all are exactly where the rest are
pub record IsLeft (u : Bool) (k : Classes) (end : End) (b : ℕ) (l : Limits) (depth : ℕ) (ws : List Way) (ts : List Tree)
    (i : ℕ) : Type 0 where
  pub rest : AcceptsEachWithin u k end b l depth ws (bounds_of ts) → AcceptsEachWithin u k end b l depth (drop i ws) (bounds_of (drop i ts))
  pub all : AcceptsEachWithin u k end b l depth (drop i ws) (bounds_of (drop i ts)) → AcceptsEachWithin u k end b l depth ws (bounds_of ts)

drop_way : (ws : List Way) (i : ℕ) (w : Way) → i < length ws → w ≡ get_or ws i w → drop i ws ≡ w ∷ drop (i + 1) ws
drop_way ws i w h is =
    let first : drop i ws ≡ get_or ws i w ∷ drop (i + 1) ws = rw (add-one) (drop-cons ws i w h) in
    first ∙ ap (λ (v : Way). v ∷ drop (i + 1) ws) (sym is)

drop_tree : (ts : List Tree) (i : ℕ) (t : Tree) → i < length ts → t ≡ get_or ts i t →
    bounds_of (drop i ts) ≡ more (bound_tree_of t) (bounds_of (drop (i + 1) ts))
drop_tree ts i t h is = grind (arith, drop-cons)

pub one_first : (u : Bool) (k : Classes) (end : End) (b : ℕ) (l : Limits) (depth : ℕ) (ws : List Way) (ts : List Tree) (i : ℕ) (w : Way)
    (t : Tree) → i < length ws → i < length ts → w ≡ get_or ws i w → t ≡ get_or ts i t →
    AcceptsEachWithin u k end b l depth (drop i ws) (bounds_of (drop i ts)) →
    AcceptsWithin u k end b (narrowed_limits k l w b) depth (bound_tree_of t)
    × AcceptsEachWithin u k end b l depth (drop (i + 1) ws) (bounds_of (drop (i + 1) ts))
one_first u k end b l depth ws ts i w t h g w_is t_is a = grind (arith, drop_way, drop_tree)

pub one_more : (u : Bool) (k : Classes) (end : End) (b : ℕ) (l : Limits) (depth : ℕ) (ws : List Way) (ts : List Tree) (i : ℕ) (w : Way)
    (t : Tree) → i < length ws → i < length ts → w ≡ get_or ws i w → t ≡ get_or ts i t →
    AcceptsWithin u k end b (narrowed_limits k l w b) depth (bound_tree_of t) →
    AcceptsEachWithin u k end b l depth (drop (i + 1) ws) (bounds_of (drop (i + 1) ts)) →
    AcceptsEachWithin u k end b l depth (drop i ws) (bounds_of (drop i ts))
one_more u k end b l depth ws ts i w t h g w_is t_is first rest = grind (arith, drop_way, drop_tree)

pub none_left : (u : Bool) (k : Classes) (end : End) (b : ℕ) (l : Limits) (depth : ℕ) (ws : List Way) (ts : List Tree) (i : ℕ) →
    length ws ≤ i → length ts ≤ i → AcceptsEachWithin u k end b l depth (drop i ws) (bounds_of (drop i ts))
none_left u k end b l depth ws ts i h g = rw (drop_all i ws h) (rw (drop_all i ts g) (omega arith, tt))

-- the way at a place is so whatever stands for one past the end
pub way_at : (ws : List Way) (i : ℕ) (d : Way) → i < length ws → get_or ws i d ≡ get_or ws i (get_or ws i d)
way_at [] i d h = absurd (omega arith)
way_at (w ∷ ws) zero d h = refl
way_at (w ∷ ws) (suc i) d h = way_at ws i d (omega arith)
