-- The two laws of *Certificate text*: what is read is spelled so, and what is spelled so is read.
use Rattle.pocsag_tree.proofs.Prelude.{◌≡◌, ℕ, zero, suc, ◌<◌, ◌≤◌, ◌⊎◌, inl, inr, eqb, List, [], ◌∷◌, ◌++◌, Ok, refl, sym, ap, ◌∙◌, append_assoc, arith, lit<, w32, to_be_bytes, eqb-true, End, Ranges, first_ranges, second_ranges, greatest_depth, BoundTree, all_nodes, IsText, ◌>>=◌, Read, byte_at, small_at, node_at, mark_at, end_of, version_at, batches_at, certificate_at, eq-eqb, HasText, node, version_bytes, written_head, first_head, written_text, first_text}
use Rattle.pocsag_words.specs.declared.ending.End.TheVariants as ends
use Rattle.pocsag_tree.specs.declared.refusals.CertificateFault.TheVariants as fault
use Rattle.pocsag_tree.proofs.Fields.{bind_ok, guard_ok, chosen, ok_is, byte_is, byte_again, small_takes, batches_takes, batches_again}
use Rattle.pocsag_tree.proofs.SpelledNodes.{IsVersion, first_ranges-is, second_ranges-is, node_again}
use Rattle.pocsag_tree.proofs.ReadNodes.{node_takes}

-- what a certificate that was read, with the bytes after it, says of the bytes
abbrev pub IsTextThen : End → ℕ → BoundTree → List ℕ → List ℕ → Type 0
IsTextThen end batches tree bytes rest = (text : List ℕ) × IsText end batches tree text × (bytes ≡ text ++ rest)

mark_takes : (wanted : ℕ) (bytes rest : List ℕ) → mark_at wanted bytes ≡ Ok rest → bytes ≡ wanted ∷ rest
unfolding mark_at
mark_takes wanted bytes rest e =
    let a = bind_ok (byte_at bytes) _ rest e in
    let g = guard_ok (eqb a.0.0 wanted) a.0.1 rest fault.NotCertificate a.2 in
    let first = byte_is bytes a.0 a.1 in
    first.parts ∙ ap (λ n. n ∷ a.0.1) (eqb-true _ _ g.0) ∙ ap (λ y. wanted ∷ y) g.1

mark_again : (wanted : ℕ) (rest : List ℕ) → wanted < 256 → mark_at wanted (wanted ∷ rest) ≡ Ok rest
unfolding mark_at
mark_again wanted rest lt = rw (byte_again wanted rest lt, eq-eqb wanted wanted refl) refl

-- the version's byte, and the end where it has one
abbrev pub IsFirst : Ranges × End × List ℕ → List ℕ → Type 0
IsFirst x bytes = (x.0 ≡ first_ranges) × (x.1 ≡ ends.Open) × (bytes ≡ 0x31 ∷ x.2)

abbrev pub IsWritten : Ranges × End × List ℕ → List ℕ → Type 0
IsWritten x bytes = (x.0 ≡ second_ranges) × (bytes ≡ version_bytes x.1 ++ x.2)

second_bytes : (n : ℕ) → n ≤ 1 → version_bytes (end_of n) ≡ 0x32 ∷ n ∷ []
second_bytes zero le = refl
second_bytes (suc zero) le = refl
second_bytes (suc (suc n)) le = absurd (omega arith)

version_takes : (bytes : List ℕ) (x : Ranges × End × List ℕ) → version_at bytes ≡ Ok x → IsFirst x bytes ⊎ IsWritten x bytes
unfolding version_at
version_takes bytes x e =
    let a = bind_ok (byte_at bytes) _ x e in
    let first = byte_is bytes a.0 a.1 in
    elim (chosen (eqb a.0.0 0x31) (Ok (first_ranges, ends.Open, a.0.1)) _ (Ok x) a.2) [
      | inl h ↦
          let built : Ranges × End × List ℕ = (first_ranges, ends.Open, a.0.1) in
          inl (rw (← (ok_is built x h.1)) (refl, refl, first.parts ∙ ap (λ n. n ∷ a.0.1) (eqb-true _ _ h.0)))
      | inr h ↦ elim (chosen (eqb a.0.0 0x32) (small_at 0 1 a.0.1 >>= λ end. Ok (second_ranges, end_of end.0, end.1)) _ (Ok x) h.1) [
        | inl g ↦
            let b = bind_ok (small_at 0 1 a.0.1) _ x g.1 in
            let p = small_takes 0 1 a.0.1 b.0 b.1 in
            let built : Ranges × End × List ℕ = (second_ranges, end_of b.0.0, b.0.1) in
            let whole : bytes ≡ version_bytes (end_of b.0.0) ++ b.0.1 = first.parts ∙ ap (λ n. n ∷ a.0.1) (eqb-true _ _ g.0)
            ∙ ap (λ y. 0x32 ∷ y) p.0.parts ∙ ap (λ v. v ++ b.0.1) (sym (second_bytes b.0.0 p.1.most)) in
            inr (rw (← (ok_is built x b.2)) (refl, whole))
        | inr g ↦
            let built : Ranges × End × List ℕ = (second_ranges, ends.Idle, a.0.1) in
            let f = guard_ok (eqb a.0.0 0x34) built x fault.Version g.1 in
            inr (rw (← f.1) (refl, first.parts ∙ ap (λ n. n ∷ a.0.1) (eqb-true _ _ f.0)))
      ]
    ]

first_again : (rest : List ℕ) → version_at (0x31 ∷ rest) ≡ Ok (first_ranges, ends.Open, rest)
unfolding version_at
first_again rest = refl

written_again : (end : End) (rest : List ℕ) → version_at (version_bytes end ++ rest) ≡ Ok (second_ranges, end, rest)
unfolding version_at small_at
written_again ends.Open rest = refl
written_again ends.Closed rest = refl
written_again ends.Idle rest = refl

-- the text that is written, and what comes after it, by its fields
written_parts : (end : End) (batches : ℕ) (tree : BoundTree) (rest : List ℕ) → written_text end batches tree ++ rest
    ≡ 0x50 ∷ 0x43 ∷ 0x42 ∷ (version_bytes end ++ (to_be_bytes w32 batches ++ (node tree ++ rest)))
written_parts end batches tree rest = append_assoc (written_head end batches) (node tree) rest
    ∙ ap (λ y. 0x50 ∷ 0x43 ∷ 0x42 ∷ y) (append_assoc (version_bytes end) (to_be_bytes w32 batches) (node tree ++ rest))

-- a certificate behind its version
record TakesRest (r : Ranges) (bytes : List ℕ) (batches : ℕ) (tree : BoundTree) (rest : List ℕ) : Type 0 where
  has_text : HasText r batches tree
  parts : bytes ≡ to_be_bytes w32 batches ++ (node tree ++ rest)

rest_takes : (r : Ranges) → IsVersion r → (bytes : List ℕ) (batches : ℕ × List ℕ) (tree : Read BoundTree) → batches_at bytes ≡ Ok batches
    → node_at r greatest_depth 0 batches.1 ≡ Ok tree → TakesRest r bytes batches.0 tree.0 tree.2
rest_takes r v bytes batches tree p q =
    let four = batches_takes bytes batches p in
    let t = node_takes r v greatest_depth 0 batches.1 tree q in
    record {
      has_text = record {
        some_batch = four.1;
        four_bytes = four.0.small;
        in_range = t.in_range;
        depth = t.deep;
        nodes = omega (arith, t.counted, t.few);
      };
      parts = four.0.parts ∙ ap (λ y. to_be_bytes w32 batches.0 ++ y) t.parts;
    }

pub certificate_takes : (bytes : List ℕ) (x : End × ℕ × BoundTree × List ℕ) → certificate_at bytes ≡ Ok x → IsTextThen x.0 x.1 x.2 bytes x.3
unfolding certificate_at
certificate_takes bytes x e =
    let a = bind_ok (mark_at 0x50 bytes) _ x e in
    let b = bind_ok (mark_at 0x43 a.0) _ x a.2 in
    let c = bind_ok (mark_at 0x42 b.0) _ x b.2 in
    let d = bind_ok (version_at c.0) _ x c.2 in
    let version = d.0 in
    let f = bind_ok (batches_at version.2) _ x d.2 in
    let batches = f.0 in
    let g = bind_ok (node_at version.0 greatest_depth 0 batches.1) _ x f.2 in
    let tree = g.0 in
    let mark : bytes ≡ 0x50 ∷ 0x43 ∷ 0x42 ∷ c.0 = mark_takes 0x50 bytes a.0 a.1 ∙ ap (λ y. 0x50 ∷ y) (mark_takes 0x43 a.0 b.0 b.1)
    ∙ ap (λ y. 0x50 ∷ 0x43 ∷ y) (mark_takes 0x42 b.0 c.0 c.1) in
    rw (← ok_is _ x g.2)
    (elim (version_takes c.0 version d.1) [
      | inl h ↦
          let t = rest_takes first_ranges first_ranges-is version.2 batches tree f.1
          (rw (← h.0) g.1) in
          let parts : bytes ≡ first_text batches.0 tree.0 ++ tree.2 = mark
          ∙ ap (λ y. 0x50 ∷ 0x43 ∷ 0x42 ∷ y) (h.2 ∙ ap (λ y. 0x31 ∷ y) t.parts)
          ∙ sym (append_assoc (first_head batches.0) (node tree.0) tree.2) in
          (first_text batches.0 tree.0, inr (record { open_end = h.1; has_text = t.has_text; text = refl }), parts)
      | inr h ↦
          let t = rest_takes second_ranges second_ranges-is version.2 batches tree f.1
          (rw (← h.0) g.1) in
          let parts : bytes ≡ written_text version.1 batches.0 tree.0 ++ tree.2 = mark
          ∙ ap (λ y. 0x50 ∷ 0x43 ∷ 0x42 ∷ y) (h.1 ∙ ap (λ y. version_bytes version.1 ++ y) t.parts)
          ∙ sym (written_parts version.1 batches.0 tree.0 tree.2) in
          (written_text version.1 batches.0 tree.0, inl (record { has_text = t.has_text; text = refl }), parts)
    ])

-- a certificate behind its version
rest_again : (r : Ranges) (end : End) (batches : ℕ) (tree : BoundTree) (bytes rest : List ℕ) → IsVersion r → HasText r batches tree
    → version_at bytes ≡ Ok (r, end, to_be_bytes w32 batches ++ (node tree ++ rest))
    → certificate_at (0x50 ∷ 0x43 ∷ 0x42 ∷ bytes) ≡ Ok (end, batches, tree, rest)
unfolding certificate_at
rest_again r end batches tree bytes rest v has version =
    let a = mark_again 0x50 (0x43 ∷ 0x42 ∷ bytes) (lit< tt) in
    let b = mark_again 0x43 (0x42 ∷ bytes) (lit< tt) in
    let c = mark_again 0x42 bytes (lit< tt) in
    let d = batches_again batches (node tree ++ rest) has.some_batch has.four_bytes in
    let f = node_again r tree greatest_depth 0 (all_nodes tree) rest v has.in_range has.depth has.nodes (omega arith) in
    rw (a, b, c, version, d, f) refl

pub certificate_again : (end : End) (batches : ℕ) (tree : BoundTree) (text rest : List ℕ) → IsText end batches tree text
    → certificate_at (text ++ rest) ≡ Ok (end, batches, tree, rest)
certificate_again end batches tree text rest (inl is) =
    ap certificate_at (ap (λ t. t ++ rest) is.text ∙ written_parts end batches tree rest) ∙ rest_again second_ranges end batches tree
    (version_bytes end ++ (to_be_bytes w32 batches ++ (node tree ++ rest))) rest second_ranges-is is.has_text
    (written_again end (to_be_bytes w32 batches ++ (node tree ++ rest)))
certificate_again end batches tree text rest (inr is) =
    let regrouped : text ++ rest ≡ 0x50 ∷ 0x43 ∷ 0x42 ∷ 0x31 ∷ to_be_bytes w32 batches ++ (node tree ++ rest) = ap (λ t. t ++ rest) is.text
    ∙ append_assoc (first_head batches) (node tree) rest in
    ap certificate_at regrouped ∙ rest_again first_ranges end batches tree
    (0x31 ∷ to_be_bytes w32 batches ++ (node tree ++ rest)) rest first_ranges-is is.has_text
    (first_again (to_be_bytes w32 batches ++ (node tree ++ rest))
    ∙ ap (λ e. Ok (first_ranges, e, to_be_bytes w32 batches ++ (node tree ++ rest))) (sym is.open_end))
