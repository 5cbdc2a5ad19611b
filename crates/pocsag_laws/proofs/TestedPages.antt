-- All pages that fail a test are taken out, one after the other.
use Rattle.pocsag_laws.proofs.Prelude.{◌≡◌, ◌≢◌, ℕ, suc, ◌+◌, ◌-◌, ◌<◌, ◌≤◌, inl, inr, Bool, List, [], ◌∷◌, ◌++◌, length, get_or, refl, sym, ap, subst, ◌∙◌, arith, length-append, filter, append_snoc, cases_Bool, cases_lt, get_or_append_left, get_or-append-add, End, Page, AreApart, IsLegalList}
use Rattle.pocsag_laws.proofs.PagesTakenOut.{page_taken_out}

-- where a page of a list stands once another is put between the others
record HasPlace (n j : ℕ) (R S : List Page) (d : Page) : Type 0 where
  place : ℕ
  same : get_or S place d ≡ get_or R j d
  low : j < n → place ≡ j
  high : n ≤ j → place ≡ j + 1

has_place : (before after : List Page) (p d : Page) (j : ℕ) → HasPlace (length before) j (before ++ after) (before ++ p ∷ after) d
has_place before after p d j = elim (cases_lt j (length before)) [
  | inl h ↦ record {
    place = j;
    same = get_or_append_left before (p ∷ after) d j h ∙ sym (get_or_append_left before after d j h);
    low = λ l. refl;
    high = λ g. absurd (omega arith);
  }
  | inr h ↦ record {
    place = j + 1;
    same =
        let n = j - length before in
        let there : length before + suc n ≡ j + 1 = omega arith in
        let here : length before + n ≡ j = omega arith in
        ap (λ m. get_or (before ++ p ∷ after) m d) (sym there)
        ∙ (get_or-append-add before (p ∷ after) (suc n) d
        ∙ (sym (get_or-append-add before after n d) ∙ ap (λ m. get_or (before ++ after) m d) here));
    low = λ l. absurd (omega arith);
    high = λ g. refl;
  }
]

-- places keep their order, and are within one more
places_in_order : (n j k a b : ℕ) → (j < n → a ≡ j) → (n ≤ j → a ≡ j + 1) → (k < n → b ≡ k) → (n ≤ k → b ≡ k + 1) → j < k → a < b
places_in_order n j k a b e f g h below = elim (cases_lt j n) [
  | inl l ↦ elim (cases_lt k n) [ inl m ↦ omega (arith, e l, g m) | inr m ↦ omega (arith, e l, h m) ]
  | inr l ↦ elim (cases_lt k n) [ inl m ↦ omega arith | inr m ↦ omega (arith, f l, h m) ]
]

place_within : (n k b m : ℕ) → (k < n → b ≡ k) → (n ≤ k → b ≡ k + 1) → k < m → b < m + 1
place_within n k b m g h within = elim (cases_lt k n) [ inl l ↦ omega (arith, g l) | inr l ↦ omega (arith, h l) ]

apart_without : (before after : List Page) (p : Page) → AreApart (before ++ p ∷ after) → AreApart (before ++ after)
apart_without before after p apart = λ j k d below within.
    let one = has_place before after p d j in
    let two = has_place before after p d k in
    let lengths : length (before ++ p ∷ after) ≡ length (before ++ after) + 1 =
    omega (arith, length-append before (p ∷ after), length-append before after) in
    let low : one.place < two.place = places_in_order (length before) j k one.place two.place one.low one.high two.low two.high below in
    let in_it : two.place < length (before ++ p ∷ after) =
    omega (arith, lengths, place_within (length before) k two.place (length (before ++ after)) two.low two.high within) in
    subst (λ (q : Page). (get_or (before ++ after) j d).address ≢ q.address) two.same
    (subst (λ (q : Page). q.address ≢ (get_or (before ++ p ∷ after) two.place d).address) one.same (apart one.place two.place d low in_it))

tested_from : (end : End) (b : ℕ) (stays : Page → Bool) (after before : List Page) (T : List ℕ) → AreApart (before ++ after) →
    IsLegalList end T b (before ++ after) → (U : List ℕ) × IsLegalList end U b (before ++ filter stays after)
tested_from end b stays [] before T apart legal = (T, legal)
tested_from end b stays (p ∷ after) before T apart legal = elim (cases_Bool (stays p)) [
  | inl kept ↦
      let moved : before ++ p ∷ after ≡ (before ++ p ∷ []) ++ after = sym (append_snoc before p after) in
      let more = tested_from end b stays after (before ++ p ∷ []) T (subst AreApart moved apart) (subst (IsLegalList end T b) moved legal) in
      let back : (before ++ p ∷ []) ++ filter stays after ≡ before ++ filter stays (p ∷ after) =
      rw kept (append_snoc before p (filter stays after)) in
      (more.0, subst (IsLegalList end more.0 b) back more.1)
  | inr gone ↦
      let less = page_taken_out end T b before after p apart legal in
      let more = tested_from end b stays after before less.0 (apart_without before after p apart) less.1 in
      let back : before ++ filter stays after ≡ before ++ filter stays (p ∷ after) = rw gone refl in
      (more.0, subst (IsLegalList end more.0 b) back more.1)
]

pub tested : (end : End) (T : List ℕ) (b : ℕ) (R : List Page) (stays : Page → Bool) → AreApart R → IsLegalList end T b R →
    (U : List ℕ) × IsLegalList end U b (filter stays R)
tested end T b R stays apart legal = tested_from end b stays R [] T apart legal
