-- What reading the whole of the bytes says of the answer.
use Rattle.pocsag_tree.proofs.Prelude.{◌≡◌, ℕ, ◌⊎◌, inl, inr, List, [], ◌∷◌, ◌++◌, Some, None, Result, Ok, Err, refl, sym, ap, subst, ◌∙◌, End, CertificateFault, BoundTree, bound_tree_of, IsText, Fails, but_last, end_at, certificate_at, all_of, IfOk, IfErr, append-nil, HasFirst, Gives, IsWanting}
use Rattle.pocsag_tree.specs.declared.shape.Certificate.{Certificate}
use Rattle.pocsag_tree.specs.declared.refusals.CertificateFault.TheVariants as fault
use Rattle.pocsag_tree.specs.Answers.{IsRefusal, AnswersTriple, AnswersFault, IsFault, HasNoFault}
use Rattle.pocsag_tree.proofs.Fields.{bind_ok, ok_is}
use Rattle.pocsag_tree.proofs.Fronts.{but_last_none}
use Rattle.pocsag_tree.proofs.Rows.{fails_along}
use Rattle.pocsag_tree.proofs.Texts.{certificate_takes, certificate_again}
use Rattle.pocsag_tree.proofs.Verdicts.{HasVerdict, all_verdict, one_verdict}

end_takes : (bytes : List ℕ) (x : Unit {0}) → end_at bytes ≡ Ok x → bytes ≡ []
unfolding end_at
end_takes [] x e = refl
end_takes (b ∷ bytes) x e = absurd cc

-- what is read whole is a text
pub all_takes : (bytes : List ℕ) (x : End × ℕ × BoundTree) → all_of bytes ≡ Ok x → IsText x.0 x.1 x.2 bytes
unfolding all_of
all_takes bytes x e =
    let a = bind_ok (certificate_at bytes) _ x e in
    let b = bind_ok (end_at a.0.3) _ x a.2 in
    let t = certificate_takes bytes a.0 a.1 in
    let all : t.0 ≡ bytes = sym (t.2 ∙ ap (λ y. t.0 ++ y) (end_takes a.0.3 b.0 b.1) ∙ append-nil t.0) in
    rw (← ok_is _ x b.2)
    (subst (λ y. IsText a.0.0 a.0.1 a.0.2 y) all t.1)

-- a text is read whole
pub all_again : (end : End) (batches : ℕ) (tree : BoundTree) (bytes : List ℕ) → IsText end batches tree bytes
    → all_of bytes ≡ Ok (end, batches, tree)
unfolding all_of end_at
all_again end batches tree bytes is =
    let read : certificate_at bytes ≡ Ok (end, batches, tree, []) = ap certificate_at (sym (append-nil bytes))
    ∙ certificate_again end batches tree bytes [] is in
    rw read refl

-- a fault is a refusal, or that of reading
fails_is : {Y : Type 0} (e : CertificateFault) (read : Result Y CertificateFault) → Fails e ⊥ read
    → IsRefusal e ⊎ ((read ≡ Err e) × (e ≡ fault.ReadFault → ⊥))
fails_is fault.ReadFault read h = inl tt
fails_is fault.OutOfMemory read h = inl tt
fails_is fault.NotCertificate read h = inr (h, λ no. cc)
fails_is fault.Version read h = inr (h, λ no. cc)
fails_is fault.Truncated read h = inr (h, λ no. cc)
fails_is fault.Trailing read h = inr (h, λ no. cc)
fails_is fault.BadTag read h = inr (h, λ no. cc)
fails_is fault.BadField read h = inr (h, λ no. cc)
fails_is fault.TooDeep read h = inr (h, λ no. cc)
fails_is fault.TooMany read h = inr (h, λ no. cc)

-- a fault behind a certificate is the fault of the whole
pub all_ends : (e : CertificateFault) (bytes rest : List ℕ) (end : End) (batches : ℕ) (tree : BoundTree)
    → certificate_at bytes ≡ Ok (end, batches, tree, rest) → Fails e ⊥ (end_at rest) → Fails e ⊥ (all_of bytes)
unfolding all_of
all_ends e bytes rest end batches tree read h =
    fails_along e ⊥ ⊥ (end_at rest) (all_of bytes) (λ no. no) (λ f is. rw (read, is) refl) h

-- a fault of a certificate is the fault of the whole
pub all_stops : (e : CertificateFault) (stopped : Type 0) (bytes : List ℕ) → Fails e stopped (certificate_at (but_last 0 bytes))
    → Fails e ⊥ (all_of bytes)
unfolding all_of
all_stops e stopped bytes h =
    fails_along e stopped ⊥ (certificate_at bytes) (all_of bytes) (λ no. absurd no) (λ f is. rw is refl) (rw but_last_none at h)

-- a certificate, and the end behind it
pub all_reads : (bytes rest : List ℕ) (end : End) (batches : ℕ) (tree : BoundTree)
    → certificate_at (but_last 0 bytes) ≡ Ok (end, batches, tree, but_last 0 rest) → end_at rest ≡ Ok tt → all_of bytes ≡ Ok (end, batches, tree)
unfolding all_of
all_reads bytes rest end batches tree read over = rw (rw (but_last_none bytes, but_last_none rest) at read, over) refl

-- reading, as the functions of the code say it
abbrev pub IsGiven : Result Certificate CertificateFault → List ℕ → Type 0
IsGiven r bytes = Gives (λ c. (c.end, c.batches, bound_tree_of c.tree)) ⊥ r (all_of bytes)

pub is_found : (r : Result Certificate CertificateFault) (bytes : List ℕ) → IsGiven r bytes
    → IfOk r (λ c. IsText c.end c.batches (bound_tree_of c.tree) bytes)
is_found (Ok c) bytes given = all_takes bytes (c.end, c.batches, bound_tree_of c.tree) given
is_found (Err e) bytes given = tt

pub is_only : (r : Result Certificate CertificateFault) (bytes : List ℕ) → IsGiven r bytes → (end : End) (batches : ℕ) (tree : BoundTree)
    → IsText end batches tree bytes → AnswersTriple r end batches tree
is_only (Ok c) bytes given end batches tree is =
    let read : End × ℕ × BoundTree = (c.end, c.batches, bound_tree_of c.tree) in
    let meant : End × ℕ × BoundTree = (end, batches, tree) in
    let same : read ≡ meant = ok_is read meant (sym given ∙ all_again end batches tree bytes is) in
    record { same_end = ap (λ x. x.0) same; same_batches = ap (λ x. x.1) same; same_tree = ap (λ x. x.2) same }
is_only (Err e) bytes given end batches tree is =
    elim (fails_is e (all_of bytes) given) [
      | inl h ↦ h
      | inr h ↦ absurd (let no = sym (all_again end batches tree bytes is) ∙ h.0 in cc)
    ]

verdict_at : (bytes : List ℕ) (s : Result (End × ℕ × BoundTree) CertificateFault) → all_of bytes ≡ s → HasVerdict bytes s
verdict_at bytes s e = rw (← e) (all_verdict bytes)

pub is_fault : (r : Result Certificate CertificateFault) (bytes : List ℕ) → IsGiven r bytes → IfErr r (λ e. IsFault e bytes)
is_fault (Ok c) bytes given = tt
is_fault (Err e) bytes given =
    elim (fails_is e (all_of bytes) given) [
      | inl h ↦ inl h
      | inr h ↦ inr (verdict_at bytes (Err e) h.0 h.1)
    ]

pub is_first : (r : Result Certificate CertificateFault) (bytes : List ℕ) → IsGiven r bytes → (f : CertificateFault) → HasFirst f bytes
    → AnswersFault r f
is_first (Ok c) bytes given f first =
    absurd (let no = one_verdict first None (verdict_at bytes (Ok (c.end, c.batches, bound_tree_of c.tree)) given) in cc)
is_first (Err e) bytes given f first =
    elim (fails_is e (all_of bytes) given) [
      | inl h ↦ inl h
      | inr h ↦ inr (let same = one_verdict first (Some e) (verdict_at bytes (Err e) h.0 h.1) in cc)
    ]

-- bytes that end where one is wanted, or with a certificate, have no fault
pub is_wanting : (bytes : List ℕ) → IsWanting (certificate_at bytes) → HasNoFault bytes
unfolding all_of end_at
is_wanting bytes h = of_read bytes (certificate_at bytes) refl h
  where
    of_read : (bytes : List ℕ) (r : Result (End × ℕ × BoundTree × List ℕ) CertificateFault) → certificate_at bytes ≡ r → IsWanting r
        → HasNoFault bytes
    of_read bytes (Ok x) is h =
        let read : all_of bytes ≡ Ok (x.0, x.1, x.2) = rw (is, h) refl in
        inr (verdict_at bytes (Ok (x.0, x.1, x.2)) read)
    of_read bytes (Err e) is h =
        let read : all_of bytes ≡ Err fault.Truncated = rw (is, h) refl in
        inl (verdict_at bytes (Err fault.Truncated) read (λ no. cc))

-- bytes that end where one is wanted lack it
pub is_short : (bytes : List ℕ) → certificate_at bytes ≡ Err fault.Truncated → HasFirst fault.Truncated bytes
unfolding all_of
is_short bytes is = verdict_at bytes (Err fault.Truncated) (rw is refl) (λ no. cc)

-- ---- laws

pub texts_same : (bytes : List ℕ) (end other_end : End) (batches other_batches : ℕ) (tree other_tree : BoundTree)
    → IsText end batches tree bytes → IsText other_end other_batches other_tree bytes
    → (end ≡ other_end) × (batches ≡ other_batches) × (tree ≡ other_tree)
texts_same bytes end other_end batches other_batches tree other_tree one two =
    let first : End × ℕ × BoundTree = (end, batches, tree) in
    let second : End × ℕ × BoundTree = (other_end, other_batches, other_tree) in
    let same : first ≡ second = ok_is first second
    (sym (all_again end batches tree bytes one) ∙ all_again other_end other_batches other_tree bytes two) in
    (ap (λ x. x.0) same, ap (λ x. x.1) same, ap (λ x. x.2) same)

pub nothing_more : (bytes more : List ℕ) (end other_end : End) (batches other_batches : ℕ) (tree other_tree : BoundTree)
    → IsText end batches tree bytes → IsText other_end other_batches other_tree (bytes ++ more) → more ≡ []
nothing_more bytes more end other_end batches other_batches tree other_tree one two =
    let first : End × ℕ × BoundTree × List ℕ = (end, batches, tree, more) in
    let second : End × ℕ × BoundTree × List ℕ = (other_end, other_batches, other_tree, []) in
    let whole : certificate_at (bytes ++ more) ≡ Ok second = ap certificate_at (sym (append-nil (bytes ++ more)))
    ∙ certificate_again other_end other_batches other_tree (bytes ++ more) [] two in
    let same : first ≡ second = ok_is first second (sym (certificate_again end batches tree bytes more one) ∙ whole) in
    ap (λ x. x.3) same

pub same_fault : (bytes : List ℕ) (f g : CertificateFault) → HasFirst f bytes → HasFirst g bytes → f ≡ g
same_fault bytes f g one two = let same = one_verdict one (Some g) two in cc

pub no_fault : (bytes : List ℕ) (end : End) (batches : ℕ) (tree : BoundTree) (f : CertificateFault) → IsText end batches tree bytes
    → HasFirst f bytes → ⊥
no_fault bytes end batches tree f is first = let no =
    one_verdict first None (verdict_at bytes (Ok (end, batches, tree)) (all_again end batches tree bytes is)) in cc
