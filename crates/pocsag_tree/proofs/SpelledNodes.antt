-- A node that is spelled so is read so.
use Rattle.pocsag_tree.proofs.Prelude.{◌≡◌, ℕ, zero, suc, ◌+◌, ◌^◌, ◌<◌, ◌≤◌, false, ltb, List, [], ◌∷◌, ◌++◌, Result, Ok, refl, ap, ◌∙◌, append_assoc, add-one, arith, lit<, w16, to_be_bytes, lt-ltb, le-ltb, Ranges, first_ranges, second_ranges, most_nodes, CertificateFault, BoundTree, BoundTrees, split, cut, close, unexamined, none, more, children_count, all_nodes, all_nodes_in, depth_of, deepest, IsInRange, AreInRange, row, Read, Reader, small_at, large_at, row_at, overload_at, split_at, cut_at, close_at, body_at, tagged_at, node_at, lit≤, overload, node}
use Rattle.pocsag_tree.proofs.Fields.{byte_again, small_again, large_again}

-- the ranges fit the bytes of their fields, and there are no tags but those of nodes
pub record IsVersion (r : Ranges) : Type 0 where
  pub class : r.class < 256
  pub m : r.m < 65536
  pub children : r.children < 65536
  pub least_tag : 3 ≤ r.tag
  pub most_tag : r.tag ≤ 4

pub first_ranges-is : IsVersion first_ranges
first_ranges-is = record { class = lit< tt; m = lit< tt; children = lit< tt; least_tag = lit≤ tt; most_tag = lit≤ tt }

pub second_ranges-is : IsVersion second_ranges
second_ranges-is = record { class = lit< tt; m = lit< tt; children = lit< tt; least_tag = lit≤ tt; most_tag = lit≤ tt }

-- the tag of a node
abbrev pub tag_of : BoundTree → ℕ
tag_of (overload set) = 0
tag_of (split class m below above) = 1
tag_of (cut set needed children) = 2
tag_of unexamined = 3
tag_of (close children) = 4

-- a node from behind its tag
abbrev pub behind : BoundTree → List ℕ
behind (overload set) = to_be_bytes w16 set
behind (split class m below above) = class ∷ to_be_bytes w16 m ++ (node below ++ node above)
behind (cut set needed children) = to_be_bytes w16 set ++ (needed ∷ to_be_bytes w16 (children_count children) ++ row children)
behind unexamined = []
behind (close children) = children_count children ∷ row children

pub node-behind : (t : BoundTree) → node t ≡ tag_of t ∷ behind t
node-behind (overload set) = refl
node-behind (split class m below above) = refl
node-behind (cut set needed children) = refl
node-behind unexamined = refl
node-behind (close children) = refl

pub tag-most : (r : Ranges) (t : BoundTree) → IsVersion r → IsInRange r t → tag_of t ≤ r.tag
tag-most r (overload set) v in_range = omega arith
tag-most r (split class m below above) v in_range = omega (arith, v.least_tag)
tag-most r (cut set needed children) v in_range = omega (arith, v.least_tag)
tag-most r unexamined v in_range = omega (arith, v.least_tag)
tag-most r (close children) v in_range = in_range.0

pub tag-small : (t : BoundTree) → tag_of t < 256
tag-small (overload set) = lit< tt
tag-small (split class m below above) = lit< tt
tag-small (cut set needed children) = lit< tt
tag-small unexamined = lit< tt
tag-small (close children) = lit< tt

-- a node that is tagged, with its children read by child
tagged_again : (r : Ranges) (child : Reader) (t : BoundTree) (made nodes : ℕ) (rest : List ℕ) → IsVersion r → IsInRange r t
    → body_at r child (tag_of t) (made + 1) (behind t ++ rest) ≡ Ok (t, nodes, rest)
    → tagged_at r child made (node t ++ rest) ≡ Ok (t, nodes, rest)
unfolding tagged_at
tagged_again r child t made nodes rest v in_range body =
    let tag : ltb r.tag (tag_of t) ≡ false = le-ltb _ _ (tag-most r t v in_range) in
    let text : node t ++ rest ≡ tag_of t ∷ behind t ++ rest = ap (λ x. x ++ rest) (node-behind t) in
    ap (tagged_at r child made) text ∙ rw (byte_again (tag_of t) (behind t ++ rest) (tag-small t), tag) body

node_step : (r : Ranges) (d made : ℕ) (bytes : List ℕ) (x : Result (Read BoundTree) CertificateFault) → made < most_nodes
    → tagged_at r (node_at r d) made bytes ≡ x → node_at r (suc d) made bytes ≡ x
unfolding node_at
node_step r d made bytes x lt e = rw (lt-ltb made most_nodes lt) e

overload_again : (r : Ranges) (child : Reader) (set made : ℕ) (rest : List ℕ) → 1 ≤ set → set < 2 ^ 16
    → body_at r child 0 made (to_be_bytes w16 set ++ rest) ≡ Ok (overload set, made, rest)
unfolding body_at overload_at
overload_again r child set made rest some lt = rw (large_again 1 65535 set rest some (omega arith) lt) refl

split_again : (r : Ranges) (child : Reader) (class m : ℕ) (below above : BoundTree) (made first second : ℕ) (rest : List ℕ) → IsVersion r
    → class ≤ r.class → 1 ≤ m → m ≤ r.m
    → child made (node below ++ (node above ++ rest)) ≡ Ok (below, first, node above ++ rest)
    → child first (node above ++ rest) ≡ Ok (above, second, rest)
    → body_at r child 1 made (behind (split class m below above) ++ rest) ≡ Ok (split class m below above, second, rest)
unfolding body_at split_at
split_again r child class m below above made first second rest v c some most p q =
    let tail = to_be_bytes w16 m ++ (node below ++ (node above ++ rest)) in
    let text : behind (split class m below above) ++ rest ≡ class ∷ tail =
    ap (λ x. class ∷ to_be_bytes w16 m ++ x) (append_assoc (node below) (node above) rest) in
    let a =
    small_again 0 r.class class tail (omega arith) c (omega (arith, v.class)) in
    let b : large_at 1 r.m tail ≡ Ok (m, node below ++ (node above ++ rest)) =
    large_again 1 r.m m (node below ++ (node above ++ rest)) some most (omega (arith, v.m)) in
    ap (split_at r child made) text ∙ rw (a, b, p, q) refl

cut_again : (r : Ranges) (child : Reader) (set needed : ℕ) (children : BoundTrees) (made nodes : ℕ) (rest : List ℕ) → IsVersion r
    → IsInRange r (cut set needed children)
    → row_at child (children_count children) made (row children ++ rest) ≡ Ok (children, nodes, rest)
    → body_at r child 2 made (behind (cut set needed children) ++ rest) ≡ Ok (cut set needed children, nodes, rest)
unfolding body_at cut_at
cut_again r child set needed children made nodes rest v in_range p =
    let tail = to_be_bytes w16 (children_count children) ++ (row children ++ rest) in
    let a : large_at 1 65535 (to_be_bytes w16 set ++ (needed ∷ tail)) ≡ Ok (set, needed ∷ tail) =
    large_again 1 65535 set (needed ∷ tail) in_range.0.0 (omega (arith, in_range.0.1)) in_range.0.1 in
    let b : small_at 0 r.class (needed ∷ tail) ≡ Ok (needed, tail) =
    small_again 0 r.class needed tail (omega arith) in_range.1 (omega (arith, v.class, in_range.1)) in
    let c : large_at 2 r.children tail ≡ Ok (children_count children, row children ++ rest) =
    large_again 2 r.children (children_count children) (row children ++ rest) in_range.2 in_range.3 (omega (arith, v.children, in_range.3)) in
    rw (a, b, c, p) refl

close_again : (r : Ranges) (child : Reader) (children : BoundTrees) (made nodes : ℕ) (rest : List ℕ) → IsInRange r (close children)
    → row_at child (children_count children) made (row children ++ rest) ≡ Ok (children, nodes, rest)
    → body_at r child 4 made (behind (close children) ++ rest) ≡ Ok (close children, nodes, rest)
unfolding body_at close_at
close_again r child children made nodes rest in_range p =
    let a : small_at 1 2 (children_count children ∷ (row children ++ rest)) ≡ Ok (children_count children, row children ++ rest) =
    small_again 1 2 (children_count children) (row children ++ rest) in_range.1 in_range.2 (omega (arith, in_range.2)) in
    rw (a, p) refl

open_again : (r : Ranges) (child : Reader) (made : ℕ) (rest : List ℕ) → body_at r child 3 made rest ≡ Ok (unexamined, made, rest)
unfolding body_at
open_again r child made rest = refl

row_none : (child : Reader) (made : ℕ) (rest : List ℕ) → row_at child 0 made rest ≡ Ok (none, made, rest)
unfolding row_at
row_none child made rest = refl

row_more : (child : Reader) (t : BoundTree) (ts : BoundTrees) (made first nodes : ℕ) (rest : List ℕ)
    → child made (node t ++ (row ts ++ rest)) ≡ Ok (t, first, row ts ++ rest)
    → row_at child (children_count ts) first (row ts ++ rest) ≡ Ok (ts, nodes, rest)
    → row_at child (children_count ts + 1) made (row (more t ts) ++ rest) ≡ Ok (more t ts, nodes, rest)
unfolding row_at
row_more child t ts made first nodes rest p q =
    ap (row_at child (children_count ts + 1) made) (append_assoc (node t) (row ts) rest) ∙ rw (add-one, p, q) refl

mutual
  pub node_again : (r : Ranges) (t : BoundTree) (d made nodes : ℕ) (rest : List ℕ) → IsVersion r → IsInRange r t → depth_of t ≤ d
      → nodes ≤ most_nodes → nodes ≡ made + all_nodes t → node_at r d made (node t ++ rest) ≡ Ok (t, nodes, rest)
  node_again r (overload set) zero made nodes rest v in_range deep few is = absurd (omega arith)
  node_again r (overload set) (suc d) made nodes rest v in_range deep few is =
      rw is
      (node_step _ _ _ _ _ (omega arith)
      (tagged_again _ _ _ _ _ _ v in_range
      (overload_again _ _ _ _ _ in_range.0 in_range.1)))
  node_again r (split class m below above) zero made nodes rest v in_range deep few is = absurd (omega arith)
  node_again r (split class m below above) (suc d) made nodes rest v in_range deep few is =
      let first = made + 1 + all_nodes below in
      let p = node_again r below d (made + 1) first (node above ++ rest) v in_range.3 (omega arith) (omega arith) refl in
      let q = node_again r above d first nodes rest v in_range.4 (omega arith) few (omega arith) in
      node_step _ _ _ _ _ (omega arith)
      (tagged_again _ _ _ _ _ _ v in_range
      (split_again _ _ _ _ _ _ _ _ _ _ v in_range.0 in_range.1 in_range.2 p q))
  node_again r (cut set needed children) zero made nodes rest v in_range deep few is = absurd (omega arith)
  node_again r (cut set needed children) (suc d) made nodes rest v in_range deep few is =
      let p = row_again r children d (made + 1) nodes rest v in_range.4 (omega arith) few (omega arith) in
      node_step _ _ _ _ _ (omega arith)
      (tagged_again _ _ _ _ _ _ v in_range
      (cut_again _ _ _ _ _ _ _ _ v in_range p))
  node_again r (close children) zero made nodes rest v in_range deep few is = absurd (omega arith)
  node_again r (close children) (suc d) made nodes rest v in_range deep few is =
      let p = row_again r children d (made + 1) nodes rest v in_range.3 (omega arith) few (omega arith) in
      node_step _ _ _ _ _ (omega arith)
      (tagged_again _ _ _ _ _ _ v in_range
      (close_again _ _ _ _ _ _ in_range p))
  node_again r unexamined zero made nodes rest v in_range deep few is = absurd (omega arith)
  node_again r unexamined (suc d) made nodes rest v in_range deep few is =
      rw is
      (node_step _ _ _ _ _ (omega arith)
      (tagged_again _ _ _ _ _ _ v in_range (open_again _ _ _ _)))

  row_again : (r : Ranges) (ts : BoundTrees) (d made nodes : ℕ) (rest : List ℕ) → IsVersion r → AreInRange r ts → deepest ts ≤ d
      → nodes ≤ most_nodes → nodes ≡ made + all_nodes_in ts
      → row_at (node_at r d) (children_count ts) made (row ts ++ rest) ≡ Ok (ts, nodes, rest)
  row_again r none d made nodes rest v in_range deep few is =
      let same : made ≡ nodes = omega arith in
      rw (← same) (row_none (node_at r d) made rest)
  row_again r (more t ts) d made nodes rest v in_range deep few is =
      let first = made + all_nodes t in
      let p = node_again r t d made first (row ts ++ rest) v in_range.0 (omega arith) (omega arith) refl in
      let q = row_again r ts d first nodes rest v in_range.1 (omega arith) few (omega arith) in
      row_more _ t ts made first nodes rest p q
