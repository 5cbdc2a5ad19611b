-- What a tree's node is seen as, and the number of its children.
use Rattle.pocsag_tree.proofs.Prelude.{◌≡◌, ℕ, ◌+◌, List, [], ◌∷◌, length, get_or, drop, ◌++◌, ◌<◌, add-one, refl, sym, ap, ◌∙◌, arith, Tree, BoundTree, split, cut, close, children_count, row, bound_tree_of, bounds_of, drop-cons, node, split_head, cut_head, close_head, bound_step}
use Rattle.std.specs.Global.{Vec, Box}
use Rattle.pocsag_tree.specs.declared.shape.Tree.TheViews.{Split, Cut, Close}
use Rattle.pocsag_tree.specs.declared.shape.Tree.TheVariants.{rolls-Split, rolls-Cut, rolls-Close}
use Rattle.pocsag_tree.specs.declared.shape.Tree.TheOpen as layer
use Rattle.pocsag_tree.specs.declared.shape.Tree.TheFolds.{fold-roll-Tree}

pub count_of_bounds : (ts : List Tree) → children_count (bounds_of ts) ≡ length ts
count_of_bounds [] = refl
count_of_bounds (t ∷ ts) = omega (arith, count_of_bounds ts)

pub bound_tree_of-cut : (t : Tree) (set needed : ℕ) (children : Vec Tree) → t ≡ Cut set needed children
    → bound_tree_of t ≡ cut set needed (bounds_of children.items)
bound_tree_of-cut t set needed children is =
    ap bound_tree_of (is ∙ sym (rolls-Cut set needed children)) ∙ fold-roll-Tree BoundTree bound_step (layer.Cut set needed children)

pub bound_tree_of-close : (t : Tree) (children : Vec Tree) → t ≡ Close children → bound_tree_of t ≡ close (bounds_of children.items)
bound_tree_of-close t children is = ap bound_tree_of (is ∙ sym (rolls-Close children)) ∙ fold-roll-Tree BoundTree bound_step (layer.Close children)

pub bound_tree_of-split : (t : Tree) (class m : ℕ) (below above : Box Tree) → t ≡ Split class m below above
    → bound_tree_of t ≡ split class m (bound_tree_of below.value) (bound_tree_of above.value)
bound_tree_of-split t class m below above is =
    ap bound_tree_of (is ∙ sym (rolls-Split class m below above)) ∙ fold-roll-Tree BoundTree bound_step (layer.Split class m below above)

pub split_seen : (class m : ℕ) (below above : Box Tree) (first second : Tree) → below.value ≡ first → above.value ≡ second
    → bound_tree_of (Split class m below above) ≡ split class m (bound_tree_of first) (bound_tree_of second)
split_seen class m below above first second p q = rw (← p, ← q) (bound_tree_of-split _ class m below above refl)

-- the text of a node with children: its head, and the texts of the children
pub split_text : (t : Tree) (class m : ℕ) (below above : Box Tree) → t ≡ Split class m below above
    → node (bound_tree_of t) ≡ split_head class m ++ (node (bound_tree_of below.value) ++ node (bound_tree_of above.value))
split_text t class m below above is = ap node (bound_tree_of-split t class m below above is)

pub cut_text : (t : Tree) (set needed count : ℕ) (children : Vec Tree) → t ≡ Cut set needed children → count ≡ length children.items
    → node (bound_tree_of t) ≡ cut_head set needed count ++ row (bounds_of children.items)
cut_text t set needed count children is many =
    let same : count ≡ children_count (bounds_of children.items) = many ∙ sym (count_of_bounds children.items) in
    rw same (ap node (bound_tree_of-cut t set needed children is))

pub close_text : (t : Tree) (count : ℕ) (children : Vec Tree) → t ≡ Close children → count ≡ length children.items
    → node (bound_tree_of t) ≡ close_head count ++ row (bounds_of children.items)
close_text t count children is many =
    let same : count ≡ children_count (bounds_of children.items) = many ∙ sym (count_of_bounds children.items) in
    rw same (ap node (bound_tree_of-close t children is))

-- the text of the trees from one on is its own, and that of those after it
pub row-drop : (ts : List Tree) (i : ℕ) (t : Tree) → i < length ts → t ≡ get_or ts i t
    → row (bounds_of (drop i ts)) ≡ node (bound_tree_of t) ++ row (bounds_of (drop (i + 1) ts))
row-drop ts i t lt is =
    let first : drop i ts ≡ t ∷ drop (i + 1) ts = rw (add-one, drop-cons ts i t, ← is) refl in
    ap (λ us. row (bounds_of us)) first
