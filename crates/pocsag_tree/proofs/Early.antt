-- Nodes that are judged before any byte of them, and nodes of which no byte is there.
use Rattle.pocsag_tree.proofs.Prelude.{◌≡◌, ℕ, zero, suc, ◌-◌, ◌≤◌, ◌<◌, List, [], Result, Ok, Err, refl, arith, lt-ltb, le-ltb, Ranges, most_nodes, CertificateFault, Tree, but_last, Fails, Reader, small_at, large_at, split_at, node_at, tagged_at, row_at, IsEarly, ReadsBy, node_then}
use Rattle.pocsag_tree.specs.declared.refusals.CertificateFault.TheVariants as fault

-- the fault of a node before any byte of it is what reading it gives, whatever its bytes
pub node_is_early : (ranges : Ranges) (depth made : ℕ) (bytes : List ℕ) (e : CertificateFault) → IsEarly depth made e
    → node_at ranges depth made bytes ≡ Err e
unfolding node_at
node_is_early ranges depth made bytes fault.TooDeep is = rw is refl
node_is_early ranges depth made bytes fault.NotCertificate is = elim is [ ]
node_is_early ranges depth made bytes fault.Version is = elim is [ ]
node_is_early ranges depth made bytes fault.Truncated is = elim is [ ]
node_is_early ranges depth made bytes fault.Trailing is = elim is [ ]
node_is_early ranges depth made bytes fault.BadTag is = elim is [ ]
node_is_early ranges depth made bytes fault.BadField is = elim is [ ]
node_is_early ranges depth made bytes fault.ReadFault is = elim is [ ]
node_is_early ranges depth made bytes fault.OutOfMemory is = elim is [ ]
node_is_early ranges zero made bytes fault.TooMany is = absurd (omega (arith, is.0))
node_is_early ranges (suc depth) made bytes fault.TooMany is = rw (le-ltb made most_nodes is.1) refl

-- a node that may stand here is read by its tag
pub node_stands : (ranges : Ranges) (depth made : ℕ) (bytes : List ℕ) → 1 ≤ depth → made < most_nodes
    → node_at ranges depth made bytes ≡ tagged_at ranges (node_at ranges (depth - 1)) made bytes
unfolding node_at
node_stands ranges zero made bytes some few = absurd (omega arith)
node_stands ranges (suc depth) made bytes some few =
    let left : suc depth - 1 ≡ depth = omega arith in
    rw (lt-ltb made most_nodes few, left) refl

-- so does a step that reads it
pub reads_tagged : (ranges : Ranges) (depth made : ℕ) (r : Result (Tree × ℕ) CertificateFault) (before after : List ℕ)
    → (1 ≤ depth) × (made < most_nodes) → ReadsBy (tagged_at ranges (node_at ranges (depth - 1)) made) node_then r before after
    → ReadsBy (node_at ranges depth made) node_then r before after
reads_tagged ranges depth made r before after fine p = record {
  shrinks = p.shrinks;
  bytes = λ k le. rw (node_stands ranges depth made (but_last k before) fine.0 fine.1) (p.bytes k le);
}

-- a node that may stand here lacks its tag where there are no bytes
pub node_ends : (ranges : Ranges) (depth made : ℕ) → 1 ≤ depth → made < most_nodes → node_at ranges depth made [] ≡ Err fault.Truncated
unfolding tagged_at
node_ends ranges depth made some few =
    node_stands ranges depth made [] some few

-- what the first node of a row gives is what the row gives
row_fails_first : (child : Reader) (count made : ℕ) (bytes : List ℕ) (e : CertificateFault) → 1 ≤ count → child made bytes ≡ Err e
    → row_at child count made bytes ≡ Err e
unfolding row_at
row_fails_first child zero made bytes e some is = absurd (omega arith)
row_fails_first child (suc count) made bytes e some is = rw is refl

-- a fault that is judged early is reported as it is
pub told : {A : Type 0} (depth made : ℕ) (e : CertificateFault) (stopped : Type 0) (read : Result A CertificateFault) → IsEarly depth made e
    → read ≡ Err e → Fails e stopped read
told depth made fault.TooDeep stopped read is same = same
told depth made fault.TooMany stopped read is same = same
told depth made fault.NotCertificate stopped read is same = elim is [ ]
told depth made fault.Version stopped read is same = elim is [ ]
told depth made fault.Truncated stopped read is same = elim is [ ]
told depth made fault.Trailing stopped read is same = elim is [ ]
told depth made fault.BadTag stopped read is same = elim is [ ]
told depth made fault.BadField stopped read is same = elim is [ ]
told depth made fault.ReadFault stopped read is same = elim is [ ]
told depth made fault.OutOfMemory stopped read is same = elim is [ ]

pub row_is_early : (ranges : Ranges) (depth count made : ℕ) (bytes : List ℕ) (e : CertificateFault) (stopped : Type 0) → 1 ≤ count
    → IsEarly depth made e
    → Fails e stopped (row_at (node_at ranges depth) count made bytes)
row_is_early ranges depth count made bytes e stopped some is =
    told depth made e stopped (row_at (node_at ranges depth) count made bytes) is
    (row_fails_first (node_at ranges depth) count made bytes e some (node_is_early ranges depth made bytes e is))

pub row_ends_early : (ranges : Ranges) (depth count made : ℕ) (bytes : List ℕ) → 1 ≤ count → 1 ≤ depth → made < most_nodes → bytes ≡ []
    → row_at (node_at ranges depth) count made bytes ≡ Err fault.Truncated
row_ends_early ranges depth count made bytes some deep few nothing =
    rw nothing (row_fails_first (node_at ranges depth) count made [] fault.Truncated some (node_ends ranges depth made deep few))

-- a fault of the first child is that of a `Split`
pub split_fails : (ranges : Ranges) (child : Reader) (class m made : ℕ) (bytes middle rest : List ℕ) (e : CertificateFault)
    → small_at 0 ranges.class bytes ≡ Ok (class, middle) → large_at 1 ranges.m middle ≡ Ok (m, rest) → child made rest ≡ Err e
    → split_at ranges child made bytes ≡ Err e
unfolding split_at
split_fails ranges child class m made bytes middle rest e a b is = rw (a, b, is) refl
