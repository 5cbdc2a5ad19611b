-- Where reading nodes leads.
use Rattle.pocsag_tree.proofs.Prelude.{◌≡◌, ℕ, zero, suc, ◌+◌, ◌<◌, ◌≤◌, Bool, true, false, cond, eqb, ltb, List, ◌∷◌, ◌++◌, replicate, None, Result, Ok, Err, refl, arith, w8, w16, cond_both, ltb-true, lt-ltb, le-ltb, Ranges, greatest_depth, most_nodes, CertificateFault, BoundTree, Part, field, children, early_fault, early, ◌>>=◌, Read, Reader, byte_at, row_at, overload_at, split_at, cut_at, close_at, body_at, tagged_at, node_at, asked_by}
use Rattle.pocsag_tree.specs.declared.refusals.CertificateFault.TheVariants as fault
use Rattle.pocsag_tree.specs.Parts.{node}
use Rattle.pocsag_tree.proofs.Leads.{Leads, along, then_leads, right_part, wrong_part, short_part, ReadsNumber, one_byte, small_leads, large_leads, few_leads, many_leads, at, past}

abbrev pub NodeLeads : Ranges → (depth : ℕ) → Reader → Type 0
NodeLeads r depth child = (parts : List Part) (nodes : ℕ) (bytes : List ℕ)
    → Leads (at (node r depth ∷ parts) nodes bytes) (past parts) (child nodes bytes)

row_leads : (r : Ranges) (depth : ℕ) (child : Reader) → NodeLeads r depth child → (n : ℕ) (parts : List Part) (nodes : ℕ) (bytes : List ℕ)
    → Leads (at (replicate n (node r depth) ++ parts) nodes bytes) (past parts) (row_at child n nodes bytes)
unfolding row_at
row_leads r depth child leads zero parts nodes bytes = λ v m. m
row_leads r depth child leads (suc n) parts nodes bytes =
    then_leads _ _ _ _ _ (leads (replicate n (node r depth) ++ parts) nodes bytes)
    (λ first is. then_leads _ _ _ _ _ (row_leads r depth child leads n parts first.1 first.2)
    (λ others same v m. m))

overload_leads : (parts : List Part) (nodes : ℕ) (bytes : List ℕ)
    → Leads (at (field w16 1 65535 ∷ parts) nodes bytes) (past parts) (overload_at nodes bytes)
unfolding overload_at
overload_leads parts nodes bytes =
    then_leads _ _ _ _ _ (large_leads 1 65535 nodes parts bytes) (λ x is v m. m)

split_leads : (r : Ranges) (depth : ℕ) (child : Reader) → NodeLeads r depth child → (parts : List Part) (nodes : ℕ) (bytes : List ℕ)
    → Leads (at (field w8 0 r.class ∷ field w16 1 r.m ∷ node r depth ∷ node r depth ∷ parts) nodes bytes) (past parts)
    (split_at r child nodes bytes)
unfolding split_at
split_leads r depth child leads parts nodes bytes =
    then_leads _ _ _ _ _ (small_leads 0 r.class nodes (field w16 1 r.m ∷ node r depth ∷ node r depth ∷ parts) bytes)
    (λ class is. then_leads _ _ _ _ _ (large_leads 1 r.m nodes (node r depth ∷ node r depth ∷ parts) class.1)
    (λ m is. then_leads _ _ _ _ _ (leads (node r depth ∷ parts) nodes m.1)
    (λ below is. then_leads _ _ _ _ _ (leads parts below.1 below.2)
    (λ above is v m. m))))

cut_leads : (r : Ranges) (depth : ℕ) (child : Reader) → NodeLeads r depth child → (parts : List Part) (nodes : ℕ) (bytes : List ℕ)
    → Leads (at (field w16 1 65535 ∷ field w8 0 r.class ∷ children r depth w16 2 r.children ∷ parts) nodes bytes) (past parts)
    (cut_at r child nodes bytes)
unfolding cut_at
cut_leads r depth child leads parts nodes bytes =
    then_leads _ _ _ _ _ (large_leads 1 65535 nodes (field w8 0 r.class ∷ children r depth w16 2 r.children ∷ parts) bytes)
    (λ set is. then_leads _ _ _ _ _ (small_leads 0 r.class nodes (children r depth w16 2 r.children ∷ parts) set.1)
    (λ needed is. then_leads _ _ _ _ _ (many_leads r depth 2 r.children nodes parts needed.1)
    (λ count is. then_leads _ _ _ _ _ (row_leads r depth child leads count.0 parts nodes count.1)
    (λ children is v m. m))))

close_leads : (r : Ranges) (depth : ℕ) (child : Reader) → NodeLeads r depth child → (parts : List Part) (nodes : ℕ) (bytes : List ℕ)
    → Leads (at (children r depth w8 1 2 ∷ parts) nodes bytes) (past parts) (close_at child nodes bytes)
unfolding close_at
close_leads r depth child leads parts nodes bytes =
    then_leads _ _ _ _ _ (few_leads r depth 1 2 nodes parts bytes)
    (λ count is. then_leads _ _ _ _ _ (row_leads r depth child leads count.0 parts nodes count.1)
    (λ children is v m. m))

-- the same test on both sides
same_way : {A B : Type 0} (b : Bool) (x y : A) (s t : B) (P : A → B → Type 0) → P x s → P y t → P (cond b x y) (cond b s t)
same_way true x y s t P p q = p
same_way false x y s t P p q = q

body_leads : (r : Ranges) (depth : ℕ) (child : Reader) → NodeLeads r depth child
    → (tag : ℕ) (parts : List Part) (nodes : ℕ) (bytes : List ℕ)
    → Leads (at (asked_by r depth tag ++ parts) nodes bytes) (past parts) (body_at r child tag nodes bytes)
unfolding body_at
body_leads r depth child leads tag parts nodes bytes =
    let P : List Part → Result (Read BoundTree) CertificateFault → Type 0 =
    λ asked read. Leads (at (asked ++ parts) nodes bytes) (past parts) read in
    same_way (eqb tag 0) _ _ _ _ P (overload_leads parts nodes bytes)
    (same_way (eqb tag 1) _ _ _ _ P (split_leads r depth child leads parts nodes bytes)
    (same_way (eqb tag 2) _ _ _ _ P (cut_leads r depth child leads parts nodes bytes)
    (same_way (eqb tag 3) _ _ _ _ P (λ v m. m)
    (close_leads r depth child leads parts nodes bytes))))

node_fine : (r : Ranges) (depth nodes : ℕ) → depth ≤ greatest_depth → nodes < most_nodes → early_fault (node r depth) nodes ≡ None
node_fine r depth nodes shallow few = rw (le-ltb greatest_depth depth shallow, lt-ltb nodes most_nodes few) refl

tag_leads : (r : Ranges) (depth : ℕ) (child : Reader) → NodeLeads r (depth + 1) child
    → (parts : List Part) (nodes : ℕ) (bytes : List ℕ) (tag : Result (ℕ × List ℕ) CertificateFault) → ReadsNumber w8 bytes tag
    → early_fault (node r depth) nodes ≡ None
    → Leads (at (node r depth ∷ parts) nodes bytes) (past parts)
    (tag >>= λ tag. cond (ltb r.tag tag.0) (Err fault.BadTag) (body_at r child tag.0 (nodes + 1) tag.1))
tag_leads r depth child leads parts nodes bytes (Err f) reads fine =
    λ given. short_part _ _ _ _ _ fine (reads.ends f refl given)
tag_leads r depth child leads parts nodes bytes (Ok tag) reads fine =
    cond_both (ltb r.tag tag.0) (Err fault.BadTag) (body_at r child tag.0 (nodes + 1) tag.1)
    (Leads (at (node r depth ∷ parts) nodes bytes) (past parts))
    (λ t given. wrong_part _ _ _ _ _ _ _ fine (reads.value tag refl) (rw t refl))
    (λ t. along (at (node r depth ∷ parts) nodes bytes) (at (asked_by r (depth + 1) tag.0 ++ parts) (nodes + 1) tag.1) (past parts)
    (body_at r child tag.0 (nodes + 1) tag.1)
    (λ v m. right_part _ (asked_by r (depth + 1) tag.0) _ _ _ _ _ _ fine (reads.value tag refl)
    (rw t refl) m)
    (body_leads r (depth + 1) child leads tag.0 parts (nodes + 1) tag.1))

tagged_leads : (r : Ranges) (depth : ℕ) (child : Reader) → NodeLeads r (depth + 1) child → (parts : List Part) (nodes : ℕ) (bytes : List ℕ)
    → depth ≤ greatest_depth → nodes < most_nodes
    → Leads (at (node r depth ∷ parts) nodes bytes) (past parts) (tagged_at r child nodes bytes)
unfolding tagged_at
tagged_leads r depth child leads parts nodes bytes shallow few =
    tag_leads r depth child leads parts nodes bytes (byte_at bytes) (one_byte bytes) (node_fine r depth nodes shallow few)

-- a node at a depth, read with as much depth left
pub node_leads : (r : Ranges) (left depth : ℕ) → depth + left ≡ greatest_depth + 1 → NodeLeads r depth (node_at r left)
unfolding node_at
node_leads r zero depth is parts nodes bytes = λ given. early (rw (lt-ltb greatest_depth depth (omega arith)) refl)
node_leads r (suc left) depth is parts nodes bytes =
    cond_both (ltb nodes most_nodes) (tagged_at r (node_at r left) nodes bytes) (Err fault.TooMany)
    (Leads (at (node r depth ∷ parts) nodes bytes) (past parts))
    (λ t. tagged_leads r depth (node_at r left) (node_leads r left (depth + 1) (omega arith)) parts nodes bytes (omega arith)
    (ltb-true _ _ t))
    (λ t given. early (rw (le-ltb greatest_depth depth (omega arith), t) refl))
