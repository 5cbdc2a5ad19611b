-- The pages of a queue that are sent next, and those that are left.
use Rattle.pocsag_pages.proofs.Prelude.{◌≡◌, ℕ, ◌+◌, ◌<◌, ◌≤◌, Bool, true, false, not, cond, ◌||◌, ◌&&◌, inl, inr, List, [], ◌∷◌, ◌++◌, length, take, drop, get_or, nat_eq, All, refl, sym, ap, ◌∙◌, arith, append_assoc, Err, Ok, BTreeSet, contains, Updates, nat_cmp, cases_Bool, nat_tests, append-nil, drop_all, length-take, take-append-drop, All-cons, All-head, All-nil, All-tail, Page, unless_empty, has_address, firsts, firsts_after, is_sent, left_after, left_of, pages_for, RoundFault, or_false}
use Rattle.pocsag_pages.proofs.GrownRounds.{has_push, same_test}
use Rattle.pocsag_pages.proofs.PageLists.{left}

-- the next step of the first pages
module _ (before ps : List Page) (p : Page) where
  pub first_again : has_address before p.address ≡ true → firsts_after before (p ∷ ps) ≡ firsts_after before ps
  unfolding firsts_after
  first_again h = rw h refl

  pub first_new : has_address before p.address ≡ false → firsts_after before (p ∷ ps) ≡ p ∷ firsts_after (before ++ p ∷ []) ps
  unfolding firsts_after
  first_new h = rw h refl

pub firsts_none : (before : List Page) → firsts_after before [] ≡ []
unfolding firsts_after
firsts_none before = refl

-- the first pages so far, and those of the pages to come
module _ (Q builder : List Page) (i : ℕ) (p : Page) (within : i < length Q) (here : p ≡ get_or Q i p)
    (so_far : firsts Q ≡ builder ++ firsts_after builder (drop i Q)) where
  next_first : firsts Q ≡ builder ++ firsts_after builder (p ∷ drop (i + 1) Q)
  next_first = so_far ∙ ap (λ (v : List Page). builder ++ firsts_after builder v) (left Q i p within here)

  pub firsts_same : has_address builder p.address ≡ true → firsts Q ≡ builder ++ firsts_after builder (drop (i + 1) Q)
  firsts_same h = next_first ∙ ap (λ (v : List Page). builder ++ v) (first_again builder (drop (i + 1) Q) p h)

  pub firsts_longer : (longer : List Page) → has_address builder p.address ≡ false → longer ≡ builder ++ p ∷ [] →
      firsts Q ≡ longer ++ firsts_after longer (drop (i + 1) Q)
  firsts_longer longer h is =
      next_first
      ∙ ap (λ (v : List Page). builder ++ v) (first_new builder (drop (i + 1) Q) p h)
      ∙ sym (append_assoc builder (p ∷ []) (firsts_after (builder ++ p ∷ []) (drop (i + 1) Q)))
      ∙ ap (λ (v : List Page). v ++ firsts_after v (drop (i + 1) Q)) (sym is)

pub firsts_over : (Q builder : List Page) (i : ℕ) → length Q ≤ i → firsts Q ≡ builder ++ firsts_after builder (drop i Q) → builder ≡ firsts Q
firsts_over Q builder i over so_far =
    sym (so_far ∙ ap (λ (v : List Page). builder ++ firsts_after builder v) (drop_all i Q over)
    ∙ ap (λ (v : List Page). builder ++ v) (firsts_none builder) ∙ append-nil builder)

some_refused : (ps : List Page) (f : RoundFault) → 0 < length ps → unless_empty ps ≡ Err f → ⊥
some_refused [] f some h = absurd (omega arith)
some_refused (p ∷ ps) f some h = cc

-- some page is the first of its address
pub some_first : (queue : List Page) → 0 < length queue → 0 < length (firsts queue)
unfolding firsts_after
some_first [] h = absurd (omega arith)
some_first (p ∷ ps) h = omega arith

pub never_empty : (Q builder : List Page) (i : ℕ) (f : RoundFault) → 0 < length Q → length Q ≤ i →
    firsts Q ≡ builder ++ firsts_after builder (drop i Q) → unless_empty builder ≡ Err f → ⊥
never_empty Q builder i f some over so_far h =
    some_refused builder f (rw (firsts_over Q builder i over so_far) (some_first Q some)) h

pub value_is : (builder R : List Page) → unless_empty builder ≡ Ok R → R ≡ builder
value_is [] R h = absurd (cc)
value_is (p ∷ ps) R h = cc

-- the next step of the pages that are left
module _ (sent before ps : List Page) (p : Page) where
  pub left_sent : is_sent sent before p ≡ true → left_after sent before (p ∷ ps) ≡ left_after sent (before ++ p ∷ []) ps
  unfolding left_after
  left_sent h = rw h refl

  pub left_kept : is_sent sent before p ≡ false → left_after sent before (p ∷ ps) ≡ p ∷ left_after sent (before ++ p ∷ []) ps
  unfolding left_after
  left_kept h = rw h refl

pub left_none : (sent before : List Page) → left_after sent before [] ≡ []
unfolding left_after
left_none sent before = refl

-- the pages that are left so far, and those of the pages to come
module _ (sent before rest all left : List Page) (p : Page) (so_far : all ≡ left ++ left_after sent before (p ∷ rest)) where
  pub keeps_on : (longer : List Page) → is_sent sent before p ≡ false → longer ≡ left ++ p ∷ [] →
      all ≡ longer ++ left_after sent (before ++ p ∷ []) rest
  keeps_on longer h is =
      so_far ∙ ap (λ (v : List Page). left ++ v) (left_kept sent before rest p h)
      ∙ sym (append_assoc left (p ∷ []) (left_after sent (before ++ p ∷ []) rest))
      ∙ ap (λ (v : List Page). v ++ left_after sent (before ++ p ∷ []) rest) (sym is)

  pub sends_on : is_sent sent before p ≡ true → all ≡ left ++ left_after sent (before ++ p ∷ []) rest
  sends_on h = so_far ∙ ap (λ (v : List Page). left ++ v) (left_sent sent before rest p h)

pub left_over : (sent before all left : List Page) → all ≡ left ++ left_after sent before [] → left ≡ all
left_over sent before all left h = sym (h ∙ ap (λ (v : List Page). left ++ v) (left_none sent before) ∙ append-nil left)

-- the addresses that are due: of these pages, and of none before
abbrev pub is_due : (sent before : List Page) → ℕ → Bool
is_due sent before a = has_address sent a && not (has_address before a)

without_one : (e s h : Bool) → cond e false (s && not h) ≡ (s && not (h || e))
without_one true true true = refl
without_one true true false = refl
without_one true false true = refl
without_one true false false = refl
without_one false true true = refl
without_one false true false = refl
without_one false false true = refl
without_one false false false = refl

pub due_less : (sent before : List Page) (due less : BTreeSet ℕ) (p : Page) → ((a : ℕ) → contains nat_cmp due a ≡ is_due sent before a) →
    Updates nat_cmp due less p.address false → (a : ℕ) → contains nat_cmp less a ≡ is_due sent (before ++ p ∷ []) a
due_less sent before due less p h u a =
    u.0 a ∙ (rw (same_test p.address a, h a, has_push before p a) (without_one (nat_eq a p.address) (has_address sent a) (has_address before a)))

never : (s h : Bool) → (s && not (h || true)) ≡ false
never true true = refl
never true false = refl
never false true = refl
never false false = refl

-- what holds of each page of a queue holds of those that are left
pub left_all : (P : Page → Type 0) (sent before ps : List Page) → All P ps → All P (left_after sent before ps)
left_all P sent before [] all = rw (left_none sent before) (All-nil P)
left_all P sent before (p ∷ ps) all =
    let later = left_all P sent (before ++ p ∷ []) ps (All-tail P p ps all) in
    elim (cases_Bool (is_sent sent before p)) [
      | inl e ↦ rw (left_sent sent before ps p e) later
      | inr n ↦ rw (left_kept sent before ps p n) (All-cons P p _ (All-head P p ps all) later)
    ]

pub left_few : (sent before ps : List Page) → length (left_after sent before ps) ≤ length ps
left_few sent before [] = rw (left_none sent before) (omega arith)
left_few sent before (p ∷ ps) =
    let later = left_few sent (before ++ p ∷ []) ps in
    elim (cases_Bool (is_sent sent before p)) [
      | inl e ↦ rw (left_sent sent before ps p e) (omega (arith, later))
      | inr n ↦ rw (left_kept sent before ps p n) (omega (arith, later))
    ]

-- the pages for one address
module _ (a : ℕ) where
  is_for : Page → Bool
  is_for p = nat_eq a p.address

  same_address : (p : Page) → nat_eq a p.address ≡ true → a ≡ p.address
  same_address p e = grind (arith, nat_tests)

  for_none : (ps : List Page) → has_address ps a ≡ false → pages_for a ps ≡ []
  for_none [] h = refl
  for_none (p ∷ ps) h = elim (cases_Bool (nat_eq a p.address)) [
    | inl e ↦ absurd (cc)
    | inr n ↦ rw n (for_none ps (rw n at h))
  ]

  for_some : (ps : List Page) → has_address ps a ≡ true → 0 < length (pages_for a ps)
  for_some [] h = absurd (cc)
  for_some (p ∷ ps) h = elim (cases_Bool (nat_eq a p.address)) [
    | inl e ↦ rw e (omega arith)
    | inr n ↦ rw n (for_some ps (rw n at h))
  ]

  for_append : (ps qs : List Page) → pages_for a (ps ++ qs) ≡ pages_for a ps ++ pages_for a qs
  for_append [] qs = refl
  for_append (p ∷ ps) qs = elim (cases_Bool (nat_eq a p.address)) [
    | inl e ↦ rw e (ap (λ (v : List Page). p ∷ v) (for_append ps qs))
    | inr n ↦ rw n (for_append ps qs)
  ]

  -- the first for an address, if none came before
  first_for : (before ps : List Page) → pages_for a (firsts_after before ps) ≡ cond (has_address before a) [] (take 1 (pages_for a ps))
  first_for before [] = rw (firsts_none before) (elim (cases_Bool (has_address before a)) [ inl e ↦ rw e refl | inr n ↦ rw n refl ])
  first_for before (p ∷ ps) = elim (cases_Bool (has_address before p.address)) [
    | inl there ↦ rw (first_again before ps p there) (elim (cases_Bool (nat_eq a p.address)) [
      | inl e ↦
          let here : has_address before a ≡ true = ap (has_address before) (same_address p e) ∙ there in
          first_for before ps ∙ (rw here refl)
      | inr n ↦ first_for before ps ∙ (rw n refl)
    ])
    | inr another ↦ rw (first_new before ps p another) (elim (cases_Bool (nat_eq a p.address)) [
      | inl e ↦
          let here : has_address before a ≡ false = ap (has_address before) (same_address p e) ∙ another in
          let now : has_address (before ++ p ∷ []) a ≡ true = rw (has_push before p a, e, here) refl in
          rw (e, first_for (before ++ p ∷ []) ps, now, here) refl
      | inr n ↦
          let same : has_address (before ++ p ∷ []) a ≡ has_address before a = rw (has_push before p a, n) (or_false (has_address before a)) in
          rw (n, first_for (before ++ p ∷ []) ps, same) refl
    ])
  ]

  -- all for an address, or all but the first
  left_for : (sent before ps : List Page) → pages_for a (left_after sent before ps) ≡ drop (cond (is_due sent before a) 1 0) (pages_for a ps)
  left_for sent before [] = rw (left_none sent before) (elim (cases_Bool (is_due sent before a)) [ inl e ↦ rw e refl | inr n ↦ rw n refl ])
  left_for sent before (p ∷ ps) =
      let later = left_for sent (before ++ p ∷ []) ps in
      elim (cases_Bool (nat_eq a p.address)) [
        | inl e ↦
            let here : is_sent sent before p ≡ is_due sent before a = ap (is_due sent before) (sym (same_address p e)) in
            let now : is_due sent (before ++ p ∷ []) a ≡ false = rw (has_push before p a, e) (never (has_address sent a) (has_address before a)) in
            elim (cases_Bool (is_due sent before a)) [
              | inl due ↦ rw (left_sent sent before ps p (here ∙ due), e, due) (later ∙ (rw now refl))
              | inr not_due ↦ rw (left_kept sent before ps p (here ∙ not_due), e, not_due) (ap (λ (v : List Page). p ∷ v) (later ∙ (rw now refl)))
            ]
        | inr n ↦
            let same : is_due sent (before ++ p ∷ []) a ≡ is_due sent before a =
            rw (has_push before p a, n) (ap (λ b. has_address sent a && not b) (or_false (has_address before a))) in
            elim (cases_Bool (is_sent sent before p)) [
              | inl e ↦ rw (left_sent sent before ps p e, n) (later ∙ (rw same refl))
              | inr k ↦ rw (left_kept sent before ps p k, n) (later ∙ (rw same refl))
            ]
      ]

  one_part : (ps qs : List Page) → length (ps ++ qs) ≤ 1 → 0 < length ps → ps ++ qs ≡ ps
  one_part [] qs few some = absurd (omega arith)
  one_part (p ∷ []) [] few some = refl
  one_part (p ∷ []) (q ∷ qs) few some = absurd (omega arith)
  one_part (p ∷ r ∷ ps) qs few some = absurd (omega arith)

  -- of pages of which at most one is for the address, the first ones
  part_for : (n : ℕ) (F : List Page) → length (pages_for a F) ≤ 1 → pages_for a (take n F) ≡ cond (has_address (take n F) a) (pages_for a F) []
  part_for n F few = elim (cases_Bool (has_address (take n F) a)) [
    | inl e ↦
        let whole : pages_for a (take n F) ++ pages_for a (drop n F) ≡ pages_for a F =
        sym (for_append (take n F) (drop n F)) ∙ ap (pages_for a) (take-append-drop n F) in
        let one : length (pages_for a (take n F) ++ pages_for a (drop n F)) ≤ 1 = rw whole few in
        rw e (sym (one_part (pages_for a (take n F)) (pages_for a (drop n F)) one (for_some (take n F) e)) ∙ whole)
    | inr none ↦ rw none (for_none (take n F) none)
  ]

  short_first : (ps : List Page) → length (take 1 (pages_for a ps)) ≤ 1
  short_first ps = omega (arith, length-take 1 (pages_for a ps))

  pub kept_order : (Q : List Page) (n : ℕ) → pages_for a (take n (firsts Q)) ++ pages_for a (left_of (take n (firsts Q)) Q) ≡ pages_for a Q
  kept_order Q n =
      let S : List Page = take n (firsts Q) in
      let one : pages_for a (firsts Q) ≡ take 1 (pages_for a Q) = first_for [] Q in
      let few : length (pages_for a (firsts Q)) ≤ 1 = rw one (short_first Q) in
      let sent = part_for n (firsts Q) few in
      let left = left_for S [] Q in
      elim (cases_Bool (has_address S a)) [
        | inl e ↦ rw (sent, left, e, one) (take-append-drop 1 (pages_for a Q))
        | inr n ↦ rw (sent, left, n) refl
      ]

pub queue_order : (Q : List Page) (n a : ℕ) → pages_for a (take n (firsts Q)) ++ pages_for a (left_of (take n (firsts Q)) Q) ≡ pages_for a Q
queue_order Q n a = kept_order a Q n
