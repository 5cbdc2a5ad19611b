-- The fault that reading meets is the first of the bytes from left to right, and there is only one.
use Rattle.pocsag_tree.proofs.Prelude.{◌≡◌, ℕ, ◌-◌, ◌^◌, true, cond, eqb, leb, List, [], ◌∷◌, Option, Some, None, Result, Ok, Err, refl, sym, ◌∙◌, arith, w8, w32, cond_both, le-leb, and_from, End, Ranges, first_ranges, second_ranges, greatest_depth, CertificateFault, BoundTree, Part, field, Meets, early, short, wrong, right, ◌>>=◌, byte_at, small_at, mark_at, end_of, version_at, long_number_at, batches_at, end_at, certificate_at, all_of, and_left, mark, version, whole, trailing, certificate}
use Rattle.pocsag_words.specs.declared.ending.End.TheVariants as ends
use Rattle.pocsag_tree.specs.declared.refusals.CertificateFault.TheVariants as fault
use Rattle.pocsag_tree.specs.Parts.{node}
use Rattle.pocsag_tree.proofs.Fields.{ok_is, IsShort, FourIs, long_number_is, long_number_short}
use Rattle.pocsag_tree.proofs.Leads.{Place, Leads, along, then_leads, right_part, wrong_part, short_part, ReadsNumber, one_byte, small_leads, at}
use Rattle.pocsag_tree.proofs.NodesLead.{node_leads}

-- no bytes have two verdicts
pub one_verdict : {parts : List Part} {nodes : ℕ} {bytes : List ℕ} {v : Option CertificateFault} → Meets parts nodes bytes v
    → (w : Option CertificateFault) → Meets parts nodes bytes w → v ≡ w
one_verdict whole w whole = refl
one_verdict trailing w trailing = refl
one_verdict (early a) w (early b) = sym a ∙ b
one_verdict (early a) w (short b l) = absurd cc
one_verdict (early a) w (wrong b l j) = absurd cc
one_verdict (early a) w (right b l j m) = absurd cc
one_verdict (short a k) w (early b) = absurd cc
one_verdict (short a k) w (short b l) = refl
one_verdict (short a k) w (wrong b l j) = absurd (omega arith)
one_verdict (short a k) w (right b l j m) = absurd (omega arith)
one_verdict (wrong a k i) w (early b) = absurd cc
one_verdict (wrong a k i) w (short b l) = absurd (omega arith)
one_verdict (wrong {f} a k i) w (wrong {f = g} b l j) = let same : Err f ≡ Err g = sym i ∙ j in cc
one_verdict (wrong a k i) w (right b l j m) = absurd cc
one_verdict (right a k i n) w (early b) = absurd cc
one_verdict (right a k i n) w (short b l) = absurd (omega arith)
one_verdict (right a k i n) w (wrong b l j) = absurd cc
one_verdict (right {nodes} {part} {asked} {parts} {bytes} a k i n) w (right {asked = other} b l j m) =
    let same : asked ≡ other = ok_is asked other (sym i ∙ j) in
    one_verdict n w (rw same m)

mark_leads : (byte : ℕ) (parts : List Part) (bytes : List ℕ)
    → Leads (at (mark byte ∷ parts) 0 bytes) (λ rest. at parts 0 rest) (mark_at byte bytes)
unfolding mark_at
mark_leads byte parts bytes = marked byte parts bytes (byte_at bytes) (one_byte bytes)
  where
    marked : (byte : ℕ) (parts : List Part) (bytes : List ℕ) (r : Result (ℕ × List ℕ) CertificateFault) → ReadsNumber w8 bytes r
        → Leads (at (mark byte ∷ parts) 0 bytes) (λ rest. at parts 0 rest)
        (r >>= λ read. cond (eqb read.0 byte) (Ok read.1) (Err fault.NotCertificate))
    marked byte parts bytes (Err f) reads = λ given. short_part _ _ _ _ _ refl (reads.ends f refl given)
    marked byte parts bytes (Ok x) reads =
        cond_both (eqb x.0 byte) (Ok x.1) (Err fault.NotCertificate)
        (Leads (at (mark byte ∷ parts) 0 bytes) (λ (rest : List ℕ). at parts 0 rest))
        (λ t v m. right_part _ [] _ _ _ _ _ _ refl (reads.value x refl) (rw t refl) m)
        (λ t given. wrong_part _ _ _ _ _ _ _ refl (reads.value x refl) (rw t refl))

abbrev behind_version : List Part → Ranges × End × List ℕ → Place
behind_version parts x = at (field w32 1 (2 ^ 32 - 1) ∷ node x.0 1 ∷ parts) 0 x.2

version_leads : (parts : List Part) (bytes : List ℕ) → Leads (at (version ∷ parts) 0 bytes) (behind_version parts) (version_at bytes)
unfolding version_at
version_leads parts bytes = of_byte parts bytes (byte_at bytes) (one_byte bytes)
  where
    of_byte : (parts : List Part) (bytes : List ℕ) (r : Result (ℕ × List ℕ) CertificateFault) → ReadsNumber w8 bytes r
        → Leads (at (version ∷ parts) 0 bytes) (behind_version parts)
        (r >>= λ byte. cond (eqb byte.0 0x31) (Ok (first_ranges, ends.Open, byte.1))
        (cond (eqb byte.0 0x32) (small_at 0 1 byte.1 >>= λ end. Ok (second_ranges, end_of end.0, end.1))
        (cond (eqb byte.0 0x34) (Ok (second_ranges, ends.Idle, byte.1)) (Err fault.Version))))
    of_byte parts bytes (Err f) reads = λ given. short_part _ _ _ _ _ refl (reads.ends f refl given)
    of_byte parts bytes (Ok x) reads =
        cond_both (eqb x.0 0x31) (Ok (first_ranges, ends.Open, x.1))
        (cond (eqb x.0 0x32) (small_at 0 1 x.1 >>= λ end. Ok (second_ranges, end_of end.0, end.1))
        (cond (eqb x.0 0x34) (Ok (second_ranges, ends.Idle, x.1)) (Err fault.Version)))
        (Leads (at (version ∷ parts) 0 bytes) (behind_version parts))
        (λ t v m. right_part _ (field w32 1 (2 ^ 32 - 1) ∷ node first_ranges 1 ∷ []) _ _ _ _ _ _ refl
        (reads.value x refl) (rw t refl) m)
        (λ s. cond_both (eqb x.0 0x32) (small_at 0 1 x.1 >>= λ end. Ok (second_ranges, end_of end.0, end.1))
        (cond (eqb x.0 0x34) (Ok (second_ranges, ends.Idle, x.1)) (Err fault.Version))
        (Leads (at (version ∷ parts) 0 bytes) (behind_version parts))
        (λ t. along (at (version ∷ parts) 0 bytes) (at (field w8 0 1 ∷ field w32 1 (2 ^ 32 - 1) ∷ node second_ranges 1 ∷ parts) 0 x.1)
        (behind_version parts) (small_at 0 1 x.1 >>= λ end. Ok (second_ranges, end_of end.0, end.1))
        (λ v m. right_part _ (field w8 0 1 ∷ field w32 1 (2 ^ 32 - 1) ∷ node second_ranges 1 ∷ []) _ _ _ _ _ _ refl
        (reads.value x refl) (rw (s, t) refl) m)
        (then_leads _ _ _ _ _ (small_leads 0 1 0 (field w32 1 (2 ^ 32 - 1) ∷ node second_ranges 1 ∷ parts) x.1) (λ y is v m. m)))
        (λ t. cond_both (eqb x.0 0x34) (Ok (second_ranges, ends.Idle, x.1)) (Err fault.Version)
        (Leads (at (version ∷ parts) 0 bytes) (behind_version parts))
        (λ u v m. right_part _ (field w32 1 (2 ^ 32 - 1) ∷ node second_ranges 1 ∷ []) _ _ _ _ _ _ refl
        (reads.value x refl) (rw (s, t, u) refl) m)
        (λ u given. wrong_part _ _ _ _ _ _ _ refl (reads.value x refl) (rw (s, t, u) refl))))

batches_leads : (nodes : ℕ) (parts : List Part) (bytes : List ℕ)
    → Leads (at (field w32 1 (2 ^ 32 - 1) ∷ parts) nodes bytes) (λ x. at parts nodes x.1) (batches_at bytes)
unfolding batches_at
batches_leads nodes parts bytes = of_number nodes parts bytes (long_number_at bytes) (λ x. long_number_is bytes x) (long_number_short bytes)
  where
    of_number : (nodes : ℕ) (parts : List Part) (bytes : List ℕ) (r : Result (ℕ × List ℕ) CertificateFault)
        → ((x : ℕ × List ℕ) → r ≡ Ok x → FourIs bytes x.0 x.1)
        → ((f : CertificateFault) → r ≡ Err f → (f ≡ fault.ReadFault → ⊥) → IsShort w32 bytes f)
        → Leads (at (field w32 1 (2 ^ 32 - 1) ∷ parts) nodes bytes) (λ x. at parts nodes x.1)
        (r >>= λ n. cond (leb 1 n.0) (Ok n) (Err fault.BadField))
    of_number nodes parts bytes (Err f) value ends =
        λ given. short_part _ _ _ _ _ refl (ends f refl given)
    of_number nodes parts bytes (Ok x) value ends =
        let four = value x refl in
        let most : leb x.0 (2 ^ 32 - 1) ≡ true = le-leb x.0 (2 ^ 32 - 1) (omega (arith, four.small)) in
        cond_both (leb 1 x.0) (Ok x) (Err fault.BadField)
        (Leads (at (field w32 1 (2 ^ 32 - 1) ∷ parts) nodes bytes) (λ (y : ℕ × List ℕ). at parts nodes y.1))
        (λ t v m. right_part _ [] _ _ _ _ _ _ refl four.number
        (rw (and_from (leb 1 x.0) (leb x.0 (2 ^ 32 - 1)) t most) refl) m)
        (λ t given. wrong_part _ _ _ _ _ _ _ refl four.number
        (rw (and_left (leb 1 x.0) (leb x.0 (2 ^ 32 - 1)) t) refl))

-- where nothing is wanted, the nodes do not matter
any_nodes : {nodes : ℕ} {bytes : List ℕ} {v : Option CertificateFault} (other : ℕ) → Meets [] nodes bytes v → Meets [] other bytes v
any_nodes other whole = whole
any_nodes other trailing = trailing

certificate_leads : (bytes : List ℕ) → Leads (at certificate 0 bytes) (λ x. at [] 0 x.3) (certificate_at bytes)
unfolding certificate_at
certificate_leads bytes =
    let last : End × ℕ × BoundTree × List ℕ → Place = λ x. at [] 0 x.3 in
    then_leads _ _ _ _ _ (mark_leads 0x50 (mark 0x43 ∷ mark 0x42 ∷ version ∷ []) bytes)
    (λ a is. then_leads _ _ _ _ _ (mark_leads 0x43 (mark 0x42 ∷ version ∷ []) a)
    (λ b is. then_leads _ _ _ _ _ (mark_leads 0x42 (version ∷ []) b)
    (λ c is. then_leads _ _ _ _ _ (version_leads [] c)
    (λ x is. then_leads _ _ _ _ _ (batches_leads 0 (node x.0 1 ∷ []) x.2)
    (λ y is. then_leads _ _ _ _ _ (node_leads x.0 greatest_depth 1 refl [] 0 y.1)
    (λ tree is v m. any_nodes tree.1 m))))))

end_verdict : (bytes : List ℕ) (nodes : ℕ) (r : Result (Unit {0}) CertificateFault) → end_at bytes ≡ r
    → Leads (at [] nodes bytes) (λ _. at [] 0 []) r
unfolding end_at
end_verdict [] nodes (Ok x) e = λ v m. any_nodes nodes m
end_verdict [] nodes (Err f) e = absurd cc
end_verdict (b ∷ bytes) nodes (Ok x) e = absurd cc
end_verdict (b ∷ bytes) nodes (Err f) e = λ given. let same : fault.Trailing ≡ f = cc in
    rw (← same) trailing

-- what reading says of the bytes is their verdict
abbrev pub HasVerdict : {A : Type 0} → List ℕ → Result A CertificateFault → Type 0
HasVerdict bytes (Ok x) = Meets certificate 0 bytes None
HasVerdict bytes (Err f) = (f ≡ fault.ReadFault → ⊥) → Meets certificate 0 bytes (Some f)

verdict_from : {A : Type 0} (bytes : List ℕ) (r : Result A CertificateFault) → Leads (at certificate 0 bytes) (λ _. at [] 0 []) r
    → HasVerdict bytes r
verdict_from bytes (Ok x) leads = leads None whole
verdict_from bytes (Err f) leads = leads

pub all_verdict : (bytes : List ℕ) → HasVerdict bytes (all_of bytes)
unfolding all_of
all_verdict bytes =
    verdict_from bytes (certificate_at bytes >>= λ x. end_at x.3 >>= λ finished. Ok (x.0, x.1, x.2))
    (then_leads _ _ _ _ _ (certificate_leads bytes)
    (λ x is. then_leads _ _ _ _ _ (end_verdict x.3 0 (end_at x.3) refl) (λ finished same v m. m)))
