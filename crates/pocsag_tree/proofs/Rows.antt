-- Reading one child after the other, as a loop does.
use Rattle.pocsag_tree.proofs.Prelude.{◌≡◌, ℕ, suc, ◌-◌, ◌+◌, ◌≤◌, ◌<◌, max, List, [], ◌∷◌, ◌++◌, map, Result, Ok, Err, refl, sym, ap, ◌∙◌, arith, CertificateFault, Tree, BoundTree, BoundTrees, none, more, all_nodes, all_nodes_in, depth_of, deepest, bound_tree_of, bounds_of, but_last, length, ◌>>=◌, Fails, Read, Reader, row_at, ReadsBy, node_then, bounds_from}
use Rattle.pocsag_tree.specs.declared.refusals.CertificateFault.TheVariants as fault

-- the trees, and then the row
abbrev pub before : List BoundTree → BoundTrees → BoundTrees
before [] ts = ts
before (t ∷ us) ts = more t (before us ts)

-- what was read before, and what is still read
abbrev pub with_front : List BoundTree → Result (Read BoundTrees) CertificateFault → Result (Read BoundTrees) CertificateFault
with_front front read = read >>= λ x. Ok (before front x.0, x.1, x.2)

before-push : (front : List BoundTree) (t : BoundTree) (ts : BoundTrees) → before (front ++ t ∷ []) ts ≡ before front (more t ts)
before-push [] t ts = refl
before-push (u ∷ us) t ts = ap (λ x. more u x) (before-push us t ts)

before-none : (front : List BoundTree) → before front none ≡ bounds_from front
before-none [] = refl
before-none (u ∷ us) = ap (λ x. more u x) (before-none us)

regroup : (front : List BoundTree) (t : BoundTree) (read : Result (Read BoundTrees) CertificateFault)
    → with_front front (read >>= λ x. Ok (more t x.0, x.1, x.2)) ≡ with_front (front ++ t ∷ []) read
regroup front t (Ok x) = ap (λ ts. Ok (ts, x.1, x.2)) (sym (before-push front t x.0))
regroup front t (Err f) = refl

pub row_goes_on : (child : Reader) (front : List BoundTree) (count i made : ℕ) (bytes : List ℕ) (t : BoundTree) (after : ℕ) (rest : List ℕ)
    (total : Result (Read BoundTrees) CertificateFault)
    → i < count → child made bytes ≡ Ok (t, after, rest)
    → with_front front (row_at child (count - i) made bytes) ≡ total
    → with_front (front ++ t ∷ []) (row_at child (count - (i + 1)) after rest) ≡ total
unfolding row_at
row_goes_on child front count i made bytes t after rest total lt h so_far =
    let k : count - i ≡ suc (count - (i + 1)) = omega arith in
    let one : with_front front (row_at child (count - i) made bytes) ≡ with_front (front ++ t ∷ [])
    (row_at child (count - (i + 1)) after rest) = rw (k, h) (regroup front t (row_at child (count - (i + 1)) after rest)) in
    sym one ∙ so_far

-- a fault of a child is the fault of the row
row_fails : (e : CertificateFault) (child : Reader) (front : List BoundTree) (count i made : ℕ) (bytes : List ℕ)
    (total : Result (Read BoundTrees) CertificateFault)
    → i < count → child made bytes ≡ Err e
    → with_front front (row_at child (count - i) made bytes) ≡ total → total ≡ Err e
unfolding row_at
row_fails e child front count i made bytes total lt h so_far =
    let k : count - i ≡ suc (count - (i + 1)) = omega arith in
    let one : with_front front (row_at child (count - i) made bytes) ≡ Err e = rw (k, h) refl in
    sym so_far ∙ one

-- where a fault of one reading is the fault of another, so is what a function returned
pub fails_along : {A B : Type 0} (e : CertificateFault) (stopped here : Type 0) (r : Result A CertificateFault) (s : Result B CertificateFault)
    → (here → stopped) → ((f : CertificateFault) → r ≡ Err f → s ≡ Err f) → Fails e stopped r → Fails e here s
fails_along fault.ReadFault stopped here r s so along h = λ now. along fault.Truncated (h (so now))
fails_along fault.OutOfMemory stopped here r s so along h = λ now. along fault.Truncated (h (so now))
fails_along fault.NotCertificate stopped here r s so along h = along fault.NotCertificate h
fails_along fault.Version stopped here r s so along h = along fault.Version h
fails_along fault.Truncated stopped here r s so along h = along fault.Truncated h
fails_along fault.Trailing stopped here r s so along h = along fault.Trailing h
fails_along fault.BadTag stopped here r s so along h = along fault.BadTag h
fails_along fault.BadField stopped here r s so along h = along fault.BadField h
fails_along fault.TooDeep stopped here r s so along h = along fault.TooDeep h
fails_along fault.TooMany stopped here r s so along h = along fault.TooMany h

-- a step that was read, and then what reads on behind it
pub reads_on : {X Y Z W : Type 0} (first : List ℕ → Result Y CertificateFault) (next : Y → Result W CertificateFault)
    (seen : X → List ℕ → Y) (view : Z → List ℕ → W) (x : X) (r : Result Z CertificateFault) (before middle after : List ℕ)
    → ReadsBy first seen (Ok x) before middle → ReadsBy (λ bytes. next (seen x bytes)) view r middle after
    → ReadsBy (λ bytes. first bytes >>= next) view r before after
reads_on first next seen view x r before middle after p q = record {
  shrinks = omega (arith, p.shrinks, q.shrinks);
  bytes = λ k le. rw (p.bytes k (omega (arith, le, q.shrinks))) (q.bytes k le);
}

-- a step that stops reading
pub reads_no_further : {X Y Z W : Type 0} (first : List ℕ → Result Y CertificateFault) (next : Y → Result W CertificateFault)
    (seen : X → List ℕ → Y) (view : Z → List ℕ → W) (e : CertificateFault) (before after : List ℕ)
    → ReadsBy first seen (Err e) before after → ReadsBy (λ bytes. first bytes >>= next) view (Err e) before after
reads_no_further first next seen view e before after p = record {
  shrinks = p.shrinks;
  bytes = λ k le.
      fails_along e (k ≡ length after) (k ≡ length after) (first (but_last k before)) (first (but_last k before) >>= next) (λ now. now)
      (λ f is. rw is refl) (p.bytes k le);
}

-- what reads no byte
pub reads_none : {Z W : Type 0} (view : Z → List ℕ → W) (z : Z) (bytes : List ℕ) → ReadsBy (λ rest. Ok (view z rest)) view (Ok z) bytes bytes
reads_none view z bytes = record { shrinks = omega arith; bytes = λ k le. refl }

-- a tree that was read is that which its view is
pub reads_tree : (t : Tree) (seen : BoundTree) (made : ℕ) (bytes : List ℕ) → bound_tree_of t ≡ seen
    → ReadsBy (λ rest. Ok (seen, made, rest)) node_then (Ok (t, made)) bytes bytes
reads_tree t seen made bytes is = record { shrinks = omega arith; bytes = λ k le. rw is refl }

pub row_ends : (e : CertificateFault) (stopped : Type 0) (child : Reader) (front : List BoundTree) (count i made : ℕ) (bytes : List ℕ)
    (total : Result (Read BoundTrees) CertificateFault)
    → i < count → Fails e stopped (child made bytes)
    → with_front front (row_at child (count - i) made bytes) ≡ total → Fails e stopped total
row_ends e stopped child front count i made bytes total lt h so_far =
    fails_along e stopped stopped (child made bytes) total (λ now. now) (λ f is. row_fails f child front count i made bytes total lt is so_far) h

pub row_is_done : (child : Reader) (front : List BoundTree) (count i made : ℕ) (bytes : List ℕ) (total : Result (Read BoundTrees) CertificateFault)
    → count ≤ i → with_front front (row_at child (count - i) made bytes) ≡ total → total ≡ Ok (bounds_from front, made, bytes)
unfolding row_at
row_is_done child front count i made bytes total le so_far =
    let k : count - i ≡ 0 = omega arith in
    let one : with_front front (row_at child (count - i) made bytes) ≡ Ok (bounds_from front, made, bytes) =
    rw k (ap (λ ts. Ok (ts, made, bytes)) (before-none front)) in
    sym so_far ∙ one

-- before the first child
pub row_starts : (child : Reader) (items : List Tree) (count made : ℕ) (bytes : List ℕ) → items ≡ []
    → with_front (map bound_tree_of items) (row_at child (count - 0) made bytes) ≡ row_at child count made bytes
row_starts child items count made bytes is =
    let k : count - 0 ≡ count = omega arith in
    rw (is, k) (none_before (row_at child count made bytes))
  where
    none_before : (read : Result (Read BoundTrees) CertificateFault) → with_front [] read ≡ read
    none_before (Ok x) = refl
    none_before (Err f) = refl

-- counts of a row with one tree more
pub nodes-push : (ts : List Tree) (t : Tree)
    → all_nodes_in (bounds_of (ts ++ t ∷ [])) ≡ all_nodes_in (bounds_of ts) + all_nodes (bound_tree_of t)
nodes-push [] t = omega arith
nodes-push (u ∷ us) t = omega (arith, nodes-push us t)

pub deepest-push : (ts : List Tree) (t : Tree) → deepest (bounds_of (ts ++ t ∷ [])) ≡ max (deepest (bounds_of ts)) (depth_of (bound_tree_of t))
deepest-push [] t = omega arith
deepest-push (u ∷ us) t = omega (arith, deepest-push us t)
