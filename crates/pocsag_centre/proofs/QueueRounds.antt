-- The round of a queue, and a round as a queue: what is sent of it and what is left.
use Rattle.pocsag_centre.proofs.Prelude.{◌≡◌, ℕ, ◌≤◌, Bool, true, false, ◌||◌, inl, inr, List, [], ◌∷◌, ◌++◌, All, length, nat_eq, refl, sym, ap, subst, ◌∙◌, arith, append_assoc, None, Ok, AllByRecursion, list_any, cases_Bool, or_right, append-nil, All-weaker, map-append, Page, IsListable, unless_empty, AreGood, addresses_of, has_address, page_fault_of, page_limit, verdict, IsQueue, firsts, firsts_after, held_pages, is_sent, left_after, left_of, queue_verdict, good_page, IsSpellable, page_file, IsPageFileOf}
use Rattle.std.specs.List.{IsDistinct}
use Rattle.std.proofs.lemmas.Bool.Decides.{nat_tests}
use Rattle.std.proofs.lemmas.List.Folds.{list_any-append}
use Rattle.pocsag_pages.proofs.QueueParts.{first_new, firsts_none, left_all, left_few, left_kept, left_none, left_sent}
use Rattle.pocsag_decode.proofs.PageRows.{free_address}

-- a round has one page for each address
firsts_same : (before ps : List Page) → AreGood (before ++ ps) → firsts_after before ps ≡ ps
firsts_same before [] good = firsts_none before
firsts_same before (p ∷ ps) good =
    let snoc : (before ++ p ∷ []) ++ ps ≡ before ++ p ∷ ps = append_assoc before (p ∷ []) ps in
    first_new before ps p (free_address before ps p good)
    ∙ ap (λ (v : List Page). p ∷ v) (firsts_same (before ++ p ∷ []) ps (subst AreGood (sym snoc) good))

pub round_firsts : (R : List Page) → AreGood R → firsts R ≡ R
round_firsts R good = firsts_same [] R good

has_append : (ps qs : List Page) (a : ℕ) → has_address (ps ++ qs) a ≡ (has_address ps a || has_address qs a)
has_append ps qs a = ap (λ (v : List ℕ). list_any (nat_eq a) v) (map-append (λ (q : Page). q.address) ps qs) ∙ list_any-append (nat_eq a) (addresses_of ps) (addresses_of qs)

neither : (b c : Bool) → (b || c) ≡ false → b ≡ false
neither true c h = absurd (cc)
neither false c h = refl

has_here : (before ps : List Page) (p : Page) → has_address (before ++ p ∷ ps) p.address ≡ true
has_here before ps p =
    let same : nat_eq p.address p.address ≡ true = grind (arith, nat_tests) in
    has_append before (p ∷ ps) p.address ∙ or_right (has_address before p.address) _ (rw same refl)

-- none of the pages is sent
none_sent : (sent more before B : List Page) → AreGood ((sent ++ more) ++ B) → left_after sent before B ≡ B
none_sent sent more before [] good = left_none sent before
none_sent sent more before (p ∷ B) good =
    let other : has_address (sent ++ more) p.address ≡ false = free_address (sent ++ more) B p good in
    let not_there : has_address sent p.address ≡ false = neither _ (has_address more p.address) (sym (has_append sent more p.address) ∙ other) in
    let kept : is_sent sent before p ≡ false = rw not_there refl in
    let snoc : (sent ++ (more ++ p ∷ [])) ++ B ≡ (sent ++ more) ++ p ∷ B =
    ap (λ (v : List Page). v ++ B) (sym (append_assoc sent more (p ∷ []))) ∙ append_assoc (sent ++ more) (p ∷ []) B in
    left_kept sent before B p kept
    ∙ ap (λ (v : List Page). p ∷ v) (none_sent sent (more ++ p ∷ []) (before ++ p ∷ []) B (subst AreGood (sym snoc) good))

-- the first of them are sent
first_sent : (before ps B : List Page) → AreGood ((before ++ ps) ++ B) → left_after (before ++ ps) before (ps ++ B) ≡ B
first_sent before [] B good = none_sent (before ++ []) [] before B (subst (λ (v : List Page). AreGood (v ++ B)) (sym (append-nil (before ++ []))) good)
first_sent before (p ∷ ps) B good =
    let joined : (before ++ p ∷ ps) ++ B ≡ before ++ p ∷ (ps ++ B) = append_assoc before (p ∷ ps) B in
    let new : has_address before p.address ≡ false = free_address before (ps ++ B) p (subst AreGood joined good) in
    let goes : is_sent (before ++ p ∷ ps) before p ≡ true = rw (has_here before ps p, new) refl in
    let snoc : (before ++ p ∷ []) ++ ps ≡ before ++ p ∷ ps = append_assoc before (p ∷ []) ps in
    left_sent (before ++ p ∷ ps) before (ps ++ B) p goes
    ∙ subst (λ (v : List Page). left_after v (before ++ p ∷ []) (ps ++ B) ≡ B) snoc
    (first_sent (before ++ p ∷ []) ps B (subst (λ (v : List Page). AreGood (v ++ B)) (sym snoc) good))

pub round_left : (F S : List Page) → AreGood (F ++ S) → left_of F (F ++ S) ≡ S
round_left F S good = first_sent [] F S good

-- of pages that stand apart those that are left do, too
left_apart : (P : ℕ → Type 0) (sent before ps : List Page) → AllByRecursion P (addresses_of ps) → AllByRecursion P (addresses_of (left_after sent before ps))
left_apart P sent before [] all = rw (left_none sent before) tt
left_apart P sent before (p ∷ ps) all =
    let later = left_apart P sent (before ++ p ∷ []) ps all.1 in
    elim (cases_Bool (is_sent sent before p)) [
      | inl e ↦ rw (left_sent sent before ps p e) later
      | inr n ↦ rw (left_kept sent before ps p n) (all.0, later)
    ]

left_distinct : (sent before ps : List Page) → IsDistinct nat_eq (addresses_of ps) → IsDistinct nat_eq (addresses_of (left_after sent before ps))
unfolding IsDistinct
left_distinct sent before [] apart = rw (left_none sent before) tt
left_distinct sent before (p ∷ ps) apart =
    let later = left_distinct sent (before ++ p ∷ []) ps apart.1 in
    elim (cases_Bool (is_sent sent before p)) [
      | inl e ↦ rw (left_sent sent before ps p e) later
      | inr n ↦ rw (left_kept sent before ps p n) (left_apart (λ y. nat_eq p.address y ≡ false) sent (before ++ p ∷ []) ps apart.0, later)
    ]

-- what is reported of page files of pages of a round and of a queue
abbrev pub AreReadBack : Type 0
AreReadBack =
    ((ps : List Page) → AreGood ps → length ps ≤ page_limit → All IsSpellable ps → verdict (page_file ps) ≡ unless_empty ps)
    × ((ps : List Page) → All (λ p. page_fault_of p ≡ None) ps → length ps ≤ page_limit → All IsSpellable ps → queue_verdict (page_file ps) ≡ unless_empty ps)

pub held_back : AreReadBack → (may_wait : Bool) (ps : List Page) → All (λ p. page_fault_of p ≡ None) ps →
    (may_wait ≡ false → IsDistinct nat_eq (addresses_of ps)) → length ps ≤ page_limit → All IsSpellable ps → IsPageFileOf may_wait ps (page_file ps)
held_back back true ps fine apart few texts = back.1 ps fine few texts
held_back back false ps fine apart few texts = back.0 ps (record { each = fine; apart = apart refl }) few texts

pub held_spellable : (may_wait : Bool) (file : List ℕ) (Q : List Page) → held_pages may_wait file ≡ Ok Q
    → ((f : List ℕ) (R : List Page) → verdict f ≡ Ok R → All IsSpellable R) → ((f : List ℕ) (R : List Page) → queue_verdict f ≡ Ok R → All IsSpellable R)
    → All IsSpellable Q
held_spellable true file Q read rounds queues = queues file Q read
held_spellable false file Q read rounds queues = rounds file Q read

pub queue_listable : (Q : List Page) → IsQueue Q → All IsListable Q
queue_listable Q queue =
    All-weaker (λ p. page_fault_of p ≡ None) IsListable (λ p fine. let g = good_page p fine in record { function = g.function; items = g.small }) Q queue.each

-- the pages that are left of a queue
module _ (Q sent : List Page) (queue : IsQueue Q) where
  pub left_listable : All IsListable (left_of sent Q)
  left_listable = left_all IsListable sent [] Q (queue_listable Q queue)

  pub left_back : AreReadBack → (may_wait : Bool) → (may_wait ≡ false → AreGood Q) → All IsSpellable Q → (S : List Page) → S ≡ left_of sent Q →
      IsPageFileOf may_wait S (page_file S)
  left_back back may_wait apart texts S is =
      let few : length (left_of sent Q) ≤ page_limit = omega (arith, left_few sent [] Q, queue.few) in
      subst (λ (ps : List Page). IsPageFileOf may_wait ps (page_file ps)) (sym is)
      (held_back back may_wait (left_of sent Q) (left_all (λ p. page_fault_of p ≡ None) sent [] Q queue.each)
      (λ off. left_distinct sent [] Q (apart off).apart) few (left_all IsSpellable sent [] Q texts))
