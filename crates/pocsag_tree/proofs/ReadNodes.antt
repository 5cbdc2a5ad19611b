-- A node that is read so is spelled so.
use Rattle.pocsag_tree.proofs.Prelude.{◌≡◌, ℕ, zero, suc, ◌+◌, ◌<◌, ◌≤◌, inl, inr, eqb, ltb, List, ◌∷◌, ◌++◌, Ok, refl, sym, ap, ◌∙◌, append_assoc, arith, w16, to_be_bytes, ltb-true, eqb-true, Ranges, most_nodes, BoundTree, BoundTrees, split, cut, close, unexamined, none, children_count, all_nodes, all_nodes_in, depth_of, deepest, IsInRange, AreInRange, row, Read, Reader, byte_at, small_at, large_at, row_at, overload_at, split_at, cut_at, close_at, body_at, tagged_at, node_at, ltb-false, eqb-false, node}
use Rattle.pocsag_tree.specs.declared.refusals.CertificateFault.TheVariants as fault
use Rattle.pocsag_tree.proofs.Fields.{bind_ok, chosen, done, ok_is, byte_is, small_takes, large_takes}
use Rattle.pocsag_tree.proofs.Fields.{guard_other, guard_then}
use Rattle.pocsag_tree.proofs.SpelledNodes.{IsVersion, tag_of, behind, node-behind}

-- what a reader of nodes took from the bytes
pub record Takes (r : Ranges) (d made : ℕ) (bytes : List ℕ) (x : Read BoundTree) : Type 0 where
  pub parts : bytes ≡ node x.0 ++ x.2
  pub in_range : IsInRange r x.0
  pub deep : depth_of x.0 ≤ d
  pub counted : x.1 ≡ made + all_nodes x.0
  pub few : x.1 ≤ most_nodes

pub record TakesRow (r : Ranges) (d made n : ℕ) (bytes : List ℕ) (x : Read BoundTrees) : Type 0 where
  pub parts : bytes ≡ row x.0 ++ x.2
  pub in_range : AreInRange r x.0
  pub deep : deepest x.0 ≤ d
  pub counted : x.1 ≡ made + all_nodes_in x.0
  pub few : x.1 ≤ most_nodes
  pub count : children_count x.0 ≡ n

abbrev pub TakesAll : Ranges → ℕ → Reader → Type 0
TakesAll r d child = (made : ℕ) (bytes : List ℕ) (x : Read BoundTree) → child made bytes ≡ Ok x → Takes r d made bytes x

four_left : (n : ℕ) → (n ≡ 0 → ⊥) → (n ≡ 1 → ⊥) → (n ≡ 2 → ⊥) → (n ≡ 3 → ⊥) → n ≤ 4 → n ≡ 4
four_left n a b c d le = omega arith

row_takes : (r : Ranges) (d : ℕ) (child : Reader) → TakesAll r d child → (n made : ℕ) (bytes : List ℕ) (x : Read BoundTrees) → made ≤ most_nodes
    → row_at child n made bytes ≡ Ok x → TakesRow r d made n bytes x
unfolding row_at
row_takes r d child takes zero made bytes x few e =
    rw (← (ok_is (none, made, bytes) x e))
    (record { parts = refl; in_range = tt; deep = omega arith; counted = omega arith; few = few; count = refl })
row_takes r d child takes (suc n) made bytes x few e =
    let a = bind_ok (child made bytes) _ x e in
    let b = bind_ok (row_at child n a.0.1 a.0.2) _ x a.2 in
    let p = takes made bytes a.0 a.1 in
    let q = row_takes r d child takes n a.0.1 a.0.2 b.0 p.few b.1 in
    rw (← ok_is _ x b.2)
    (record {
      parts = p.parts ∙ ap (λ t. node a.0.0 ++ t) q.parts ∙ sym (append_assoc (node a.0.0) (row b.0.0) b.0.2);
      in_range = (p.in_range, q.in_range);
      deep = omega (arith, p.deep, q.deep);
      counted = omega (arith, p.counted, q.counted);
      few = q.few;
      count = omega (arith, q.count);
    })

-- a node from behind its tag
record TakesBody (r : Ranges) (d made tag : ℕ) (bytes : List ℕ) (x : Read BoundTree) : Type 0 where
  parts : bytes ≡ behind x.0 ++ x.2
  same_tag : tag_of x.0 ≡ tag
  in_range : IsInRange r x.0
  deep : depth_of x.0 ≤ suc d
  counted : x.1 + 1 ≡ made + all_nodes x.0
  few : x.1 ≤ most_nodes

overload_takes : (r : Ranges) (d made : ℕ) (bytes : List ℕ) (x : Read BoundTree) → made ≤ most_nodes → overload_at made bytes ≡ Ok x
    → TakesBody r d made 0 bytes x
unfolding overload_at
overload_takes r d made bytes x few e =
    let a = bind_ok (large_at 1 65535 bytes) _ x e in
    let p = large_takes 1 65535 bytes a.0 a.1 in
    rw (← ok_is _ x a.2)
    (record { parts = p.0; same_tag = refl; in_range = (p.2.least, p.1); deep = omega arith; counted = refl; few = few })

split_takes : (r : Ranges) (d : ℕ) (child : Reader) → TakesAll r d child → (made : ℕ) (bytes : List ℕ) (x : Read BoundTree)
    → split_at r child made bytes ≡ Ok x → TakesBody r d made 1 bytes x
unfolding split_at
split_takes r d child takes made bytes x e =
    let a = bind_ok (small_at 0 r.class bytes) _ x e in
    let class = a.0 in
    let b = bind_ok (large_at 1 r.m class.1) _ x a.2 in
    let m = b.0 in
    let c = bind_ok (child made m.1) _ x b.2 in
    let below = c.0 in
    let f = bind_ok (child below.1 below.2) _ x c.2 in
    let above = f.0 in
    let p = small_takes 0 r.class bytes class a.1 in
    let q = large_takes 1 r.m class.1 m b.1 in
    let s = takes made m.1 below c.1 in
    let t = takes below.1 below.2 above f.1 in
    let children : m.1 ≡ (node below.0 ++ node above.0) ++ above.2 = s.parts ∙ ap (λ y. node below.0 ++ y) t.parts
    ∙ sym (append_assoc (node below.0) (node above.0) above.2) in
    let whole : bytes ≡ behind (split class.0 m.0 below.0 above.0) ++ above.2 = p.0.parts ∙ ap (λ y. class.0 ∷ y) q.0
    ∙ ap (λ y. class.0 ∷ to_be_bytes w16 m.0 ++ y) children in
    rw (← ok_is _ x f.2)
    (record {
      parts = whole;
      same_tag = refl;
      in_range = (p.1.most, q.2.least, q.2.most, s.in_range, t.in_range);
      deep = omega (arith, s.deep, t.deep);
      counted = omega (arith, s.counted, t.counted);
      few = t.few;
    })

cut_takes : (r : Ranges) (d : ℕ) (child : Reader) → TakesAll r d child → (made : ℕ) (bytes : List ℕ) (x : Read BoundTree) → made ≤ most_nodes
    → cut_at r child made bytes ≡ Ok x → TakesBody r d made 2 bytes x
unfolding cut_at
cut_takes r d child takes made bytes x few e =
    let a = bind_ok (large_at 1 65535 bytes) _ x e in
    let set = a.0 in
    let b = bind_ok (small_at 0 r.class set.1) _ x a.2 in
    let needed = b.0 in
    let c = bind_ok (large_at 2 r.children needed.1) _ x b.2 in
    let count = c.0 in
    let f = bind_ok (row_at child count.0 made count.1) _ x c.2 in
    let children = f.0 in
    let p = large_takes 1 65535 bytes set a.1 in
    let q = small_takes 0 r.class set.1 needed b.1 in
    let s = large_takes 2 r.children needed.1 count c.1 in
    let t = row_takes r d child takes count.0 made count.1 children few f.1 in
    let number : needed.1 ≡ to_be_bytes w16 (children_count children.0) ++ count.1 = s.0 ∙ ap (λ n. to_be_bytes w16 n ++ count.1) (sym t.count) in
    let whole : bytes ≡ behind (cut set.0 needed.0 children.0) ++ children.2 = p.0
    ∙ ap (λ y. to_be_bytes w16 set.0 ++ y)
    (q.0.parts ∙ ap (λ y. needed.0 ∷ y) (number ∙ ap (λ y. to_be_bytes w16 (children_count children.0) ++ y) t.parts)) in
    rw (← ok_is _ x f.2)
    (record {
      parts = whole;
      same_tag = refl;
      in_range = ((p.2.least, p.1), q.1.most, omega (arith, s.2.least, t.count), omega (arith, s.2.most, t.count), t.in_range);
      deep = omega (arith, t.deep);
      counted = omega (arith, t.counted);
      few = t.few;
    })

close_takes : (r : Ranges) (d : ℕ) (child : Reader) → TakesAll r d child → (made : ℕ) (bytes : List ℕ) (x : Read BoundTree) → 4 ≤ r.tag
    → made ≤ most_nodes → close_at child made bytes ≡ Ok x → TakesBody r d made 4 bytes x
unfolding close_at
close_takes r d child takes made bytes x four few e =
    let a = bind_ok (small_at 1 2 bytes) _ x e in
    let count = a.0 in
    let b = bind_ok (row_at child count.0 made count.1) _ x a.2 in
    let children = b.0 in
    let p = small_takes 1 2 bytes count a.1 in
    let t = row_takes r d child takes count.0 made count.1 children few b.1 in
    let whole : bytes ≡ behind (close children.0) ++ children.2 = p.0.parts ∙ ap (λ n. n ∷ count.1) (sym t.count)
    ∙ ap (λ y. children_count children.0 ∷ y) t.parts in
    rw (← ok_is _ x b.2)
    (record {
      parts = whole;
      same_tag = refl;
      in_range = (four, omega (arith, p.1.least, t.count), omega (arith, p.1.most, t.count), t.in_range);
      deep = omega (arith, t.deep);
      counted = omega (arith, t.counted);
      few = t.few;
    })

open_takes : (r : Ranges) (d made : ℕ) (bytes : List ℕ) (x : Read BoundTree) → made ≤ most_nodes → done (unexamined, made, bytes) ≡ Ok x
    → TakesBody r d made 3 bytes x
open_takes r d made bytes x few e =
    rw (← ok_is _ x e)
    (record { parts = refl; same_tag = refl; in_range = tt; deep = omega arith; counted = refl; few = few })

body_takes : (r : Ranges) (d : ℕ) (child : Reader) → TakesAll r d child → IsVersion r → (tag made : ℕ) (bytes : List ℕ) (x : Read BoundTree)
    → tag ≤ r.tag → made ≤ most_nodes → body_at r child tag made bytes ≡ Ok x → TakesBody r d made tag bytes x
unfolding body_at
body_takes r d child takes v tag made bytes x le few e =
    elim (chosen (eqb tag 0) (overload_at made bytes) _ (Ok x) e) [
      | inl h ↦ rw (eqb-true tag 0 h.0) (overload_takes r d made bytes x few h.1)
      | inr h ↦ elim (chosen (eqb tag 1) (split_at r child made bytes) _ (Ok x) h.1) [
        | inl i ↦ rw (eqb-true tag 1 i.0) (split_takes r d child takes made bytes x i.1)
        | inr i ↦ elim (chosen (eqb tag 2) (cut_at r child made bytes) _ (Ok x) i.1) [
          | inl j ↦ rw (eqb-true tag 2 j.0) (cut_takes r d child takes made bytes x few j.1)
          | inr j ↦ elim (chosen (eqb tag 3) (Ok (unexamined, made, bytes)) _ (Ok x) j.1) [
            | inl k ↦ rw (eqb-true tag 3 k.0) (open_takes r d made bytes x few k.1)
            | inr k ↦
                let none_below : tag ≡ 4 = four_left tag (eqb-false tag 0 h.0) (eqb-false tag 1 i.0) (eqb-false tag 2 j.0)
                (eqb-false tag 3 k.0) (omega (arith, le, v.most_tag)) in
                rw none_below (close_takes r d child takes made bytes x (omega (arith, none_below, le)) few k.1)
          ]
        ]
      ]
    ]

tagged_takes : (r : Ranges) (d : ℕ) (child : Reader) → TakesAll r d child → IsVersion r → (made : ℕ) (bytes : List ℕ) (x : Read BoundTree)
    → made < most_nodes → tagged_at r child made bytes ≡ Ok x → Takes r (suc d) made bytes x
unfolding tagged_at
tagged_takes r d child takes v made bytes x lt e =
    let a = bind_ok (byte_at bytes) _ x e in
    let tag = a.0 in
    let g = guard_other (ltb r.tag tag.0) fault.BadTag (body_at r child tag.0 (made + 1) tag.1) x a.2 in
    let first = byte_is bytes tag a.1 in
    let p = body_takes r d child takes v tag.0 (made + 1) tag.1 x (ltb-false _ _ g.0) (omega arith) g.1 in
    record {
      parts = first.parts ∙ ap (λ y. tag.0 ∷ y) p.parts ∙ ap (λ n. n ∷ behind x.0 ++ x.2) (sym p.same_tag)
          ∙ ap (λ y. y ++ x.2) (sym (node-behind x.0));
      in_range = p.in_range;
      deep = p.deep;
      counted = omega (arith, p.counted);
      few = p.few;
    }

pub node_takes : (r : Ranges) → IsVersion r → (d : ℕ) → TakesAll r d (node_at r d)
unfolding node_at
node_takes r v zero made bytes x e = absurd cc
node_takes r v (suc d) made bytes x e =
    let g = guard_then (ltb made most_nodes) fault.TooMany (tagged_at r (node_at r d) made bytes) x e in
    tagged_takes r d (node_at r d) (node_takes r v d) v made bytes x (ltb-true _ _ g.0) g.1
