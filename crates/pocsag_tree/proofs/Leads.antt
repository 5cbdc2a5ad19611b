-- Where reading leads: from one place of a certificate to a place with the same verdict.
use Rattle.pocsag_tree.proofs.Prelude.{◌≡◌, ℕ, cond, leb, List, [], ◌∷◌, ◌++◌, replicate, Option, Some, None, Result, Ok, Err, refl, ap, ◌∙◌, ◌&&◌, Width, w8, w16, cond_both, Ranges, CertificateFault, Part, field, children, early_fault, Meets, short, wrong, right, ◌>>=◌, Read, byte_at, number_at, small_at, large_at, width_of, judged, nodes_with}
use Rattle.pocsag_tree.specs.declared.refusals.CertificateFault.TheVariants as fault
use Rattle.pocsag_tree.specs.Parts.{node}
use Rattle.pocsag_tree.proofs.Fields.{NumberIs, IsShort, byte_value, byte_is_short, number_value, number_short}

-- a place in a certificate: the parts that are wanted, the nodes before it, and the bytes from it on
pub record Place : Type 0 where
  pub wanted : List Part
  pub nodes : ℕ
  pub bytes : List ℕ

abbrev pub MeetsAt : Place → Option CertificateFault → Type 0
MeetsAt p v = Meets p.wanted p.nodes p.bytes v

-- the place of nodes that are wanted, and the place behind what was read
abbrev pub at : List Part → ℕ → List ℕ → Place
at parts nodes bytes = record { wanted = parts; nodes = nodes; bytes = bytes }

abbrev pub past : {A : Type 0} → List Part → Read A → Place
past parts x = record { wanted = parts; nodes = x.1; bytes = x.2 }

-- Reading at a place leads to a place with the same verdict, or meets the verdict itself.
abbrev pub Leads : {A : Type 0} → Place → (A → Place) → Result A CertificateFault → Type 0
Leads from to (Ok x) = (v : Option CertificateFault) → MeetsAt (to x) v → MeetsAt from v
Leads from to (Err f) = (f ≡ fault.ReadFault → ⊥) → MeetsAt from (Some f)

pub along : {B : Type 0} (from middle : Place) (to : B → Place) (r : Result B CertificateFault)
    → ((v : Option CertificateFault) → MeetsAt middle v → MeetsAt from v) → Leads middle to r → Leads from to r
along from middle to (Ok y) back leads = λ v m. back v (leads v m)
along from middle to (Err f) back leads = λ given. back (Some f) (leads given)

pub then_leads : {A B : Type 0} (from : Place) (middle : A → Place) (to : B → Place) (r : Result A CertificateFault)
    (f : A → Result B CertificateFault)
    → Leads from middle r → ((x : A) → r ≡ Ok x → Leads (middle x) to (f x)) → Leads from to (r >>= f)
then_leads from middle to (Ok x) f first second = along from (middle x) to (f x) first (second x refl)
then_leads from middle to (Err d) f first second = first

-- a part whose number is right, wrong, or cut short
pub right_part : (part : Part) (asked parts : List Part) (nodes n : ℕ) (bytes rest : List ℕ) (v : Option CertificateFault)
    → early_fault part nodes ≡ None → NumberIs (width_of part) bytes n rest → judged part n ≡ Ok asked
    → Meets (asked ++ parts) (nodes_with part nodes) rest v → Meets (part ∷ parts) nodes bytes v
right_part part asked parts nodes n bytes rest v fine number judges m =
    right fine number.long (ap (judged part) number.value ∙ judges)
    (rw number.after m)

pub wrong_part : (part : Part) (parts : List Part) (nodes n : ℕ) (bytes rest : List ℕ) (f : CertificateFault)
    → early_fault part nodes ≡ None → NumberIs (width_of part) bytes n rest → judged part n ≡ Err f
    → Meets (part ∷ parts) nodes bytes (Some f)
wrong_part part parts nodes n bytes rest f fine number judges =
    wrong fine number.long (ap (judged part) number.value ∙ judges)

pub short_part : (part : Part) (parts : List Part) (nodes : ℕ) (bytes : List ℕ) (f : CertificateFault)
    → early_fault part nodes ≡ None → IsShort (width_of part) bytes f → Meets (part ∷ parts) nodes bytes (Some f)
short_part part parts nodes bytes f fine s =
    rw s.truncated (short fine s.short)

-- what a reader of numbers of this width gives
pub record ReadsNumber (w : Width) (bytes : List ℕ) (r : Result (ℕ × List ℕ) CertificateFault) : Type 0 where
  pub value : (x : ℕ × List ℕ) → r ≡ Ok x → NumberIs w bytes x.0 x.1
  pub ends : (f : CertificateFault) → r ≡ Err f → (f ≡ fault.ReadFault → ⊥) → IsShort w bytes f

pub one_byte : (bytes : List ℕ) → ReadsNumber w8 bytes (byte_at bytes)
one_byte bytes = record { value = byte_value bytes; ends = byte_is_short bytes }

pub two_bytes : (bytes : List ℕ) → ReadsNumber w16 bytes (number_at bytes)
two_bytes bytes = record { value = number_value bytes; ends = number_short bytes }

-- a number that is judged by a range, and asks for parts
ranged : (part : Part) (asked : ℕ → List Part) (low high nodes : ℕ) (parts : List Part) (bytes : List ℕ)
    (r : Result (ℕ × List ℕ) CertificateFault)
    → early_fault part nodes ≡ None → nodes_with part nodes ≡ nodes
    → ((n : ℕ) → judged part n ≡ cond (leb low n && leb n high) (Ok (asked n)) (Err fault.BadField))
    → ReadsNumber (width_of part) bytes r
    → Leads (at (part ∷ parts) nodes bytes) (λ x. at (asked x.0 ++ parts) nodes x.1)
    (r >>= λ n. cond (leb low n.0 && leb n.0 high) (Ok n) (Err fault.BadField))
ranged part asked low high nodes parts bytes (Err f) fine same judges reads =
    λ given. short_part _ _ _ _ _ fine (reads.ends f refl given)
ranged part asked low high nodes parts bytes (Ok x) fine same judges reads =
    cond_both (leb low x.0 && leb x.0 high) (Ok x) (Err fault.BadField)
    (Leads (at (part ∷ parts) nodes bytes) (λ (y : ℕ × List ℕ). at (asked y.0 ++ parts) nodes y.1))
    (λ t v m. right_part _ (asked x.0) _ _ _ _ _ _ fine (reads.value x refl) (judges x.0 ∙ rw t refl)
    (rw same m))
    (λ t given. wrong_part _ _ _ _ _ _ _ fine (reads.value x refl) (judges x.0 ∙ rw t refl))

pub small_leads : (low high nodes : ℕ) (parts : List Part) (bytes : List ℕ)
    → Leads (at (field w8 low high ∷ parts) nodes bytes) (λ x. at parts nodes x.1) (small_at low high bytes)
unfolding small_at
small_leads low high nodes parts bytes =
    ranged (field w8 low high) (λ n. []) low high nodes parts bytes (byte_at bytes) refl refl (λ n. refl) (one_byte bytes)

pub large_leads : (low high nodes : ℕ) (parts : List Part) (bytes : List ℕ)
    → Leads (at (field w16 low high ∷ parts) nodes bytes) (λ x. at parts nodes x.1) (large_at low high bytes)
unfolding large_at
large_leads low high nodes parts bytes =
    ranged (field w16 low high) (λ n. []) low high nodes parts bytes (number_at bytes) refl refl (λ n. refl) (two_bytes bytes)

-- the number of the children of a `Close`, and of a `Cut`
pub few_leads : (r : Ranges) (depth low high nodes : ℕ) (parts : List Part) (bytes : List ℕ)
    → Leads (at (children r depth w8 low high ∷ parts) nodes bytes)
    (λ x. at (replicate x.0 (node r depth) ++ parts) nodes x.1) (small_at low high bytes)
unfolding small_at
few_leads r depth low high nodes parts bytes =
    ranged (children r depth w8 low high) (λ n. replicate n (node r depth)) low high nodes parts bytes (byte_at bytes) refl refl (λ n. refl)
    (one_byte bytes)

pub many_leads : (r : Ranges) (depth low high nodes : ℕ) (parts : List Part) (bytes : List ℕ)
    → Leads (at (children r depth w16 low high ∷ parts) nodes bytes)
    (λ x. at (replicate x.0 (node r depth) ++ parts) nodes x.1) (large_at low high bytes)
unfolding large_at
many_leads r depth low high nodes parts bytes =
    ranged (children r depth w16 low high) (λ n. replicate n (node r depth)) low high nodes parts bytes (number_at bytes) refl refl
    (λ n. refl) (two_bytes bytes)
