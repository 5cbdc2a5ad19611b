-- What the absence of a fault says of a page, and of the pages of a round.
use Rattle.pocsag_pages.proofs.Prelude.{◌≡◌, ◌≢◌, ℕ, ◌+◌, ◌^◌, ◌<◌, ◌≤◌, Bool, true, false, not, ◌||◌, ◌&&◌, ◌⊎◌, inl, inr, List, [], ◌∷◌, length, All, nat_eq, nat_le, refl, arith, None, list_any, nat_tests, length-map, All-cons, All-nil, All-head, All-tail, apart_from_distinct, or_cases, or_parts, item_limit, Page, last_address, AreGood, IsGoodPage, addresses_of, is_bad_payload, page_fault_of, AreApart}
use Rattle.std.proofs.Common.{nat_lt}
use Rattle.std.proofs.Math.ListN.{get_or-map}
use Rattle.std.proofs.lemmas.Map.Steps.{length-le_from_distinct_below}
use Rattle.pocsag_text.proofs.Payloads.{none_from_cond}

not_above : (limit n : ℕ) → nat_lt limit n ≡ false → n ≤ limit
not_above limit n e = grind (arith, nat_tests)

below_next : (limit n : ℕ) → n ≤ limit → n < limit + 1
below_next limit n h = omega arith

not_reached : (limit n : ℕ) → nat_le limit n ≡ false → n < limit
not_reached limit n e = grind (arith, nat_tests)

none_large : (items : List ℕ) → list_any (nat_le (2 ^ 20)) items ≡ false → All (λ item. item < 2 ^ 20) items
none_large [] e = All-nil _
none_large (x ∷ items) e =
    let d = or_parts (nat_le (2 ^ 20) x) (list_any (nat_le (2 ^ 20)) items) e in
    All-cons (λ item. item < 2 ^ 20) x items (not_reached (2 ^ 20) x d.0) (none_large items d.1)

not_empty : (x : ℕ) (items : List ℕ) → nat_eq (length (x ∷ items)) 0 ≡ false
not_empty x items = grind (arith, nat_tests)

empty_where_unwanted : (b : Bool) (items : List ℕ) → (b && not (nat_eq (length items) 0)) ≡ false → b ≡ true → items ≡ []
empty_where_unwanted b [] e h = refl
empty_where_unwanted true (x ∷ items) e h = absurd (cc (not_empty x items))
empty_where_unwanted false (x ∷ items) e h = absurd (cc)

unwanted : (f : ℕ) → (f ≡ 1) ⊎ (f ≡ 2) → (nat_eq f 1 || nat_eq f 2) ≡ true
unwanted f h = grind (arith, nat_tests)

pub good_page : (p : Page) → page_fault_of p ≡ None → IsGoodPage p
unfolding is_bad_payload
good_page p e =
    let a = none_from_cond _ _ _ e in
    let r = none_from_cond _ _ _ a.1 in
    let b = none_from_cond _ _ _ r.1 in
    let f =
    or_parts (nat_lt 3 p.function || ((nat_eq p.function 1 || nat_eq p.function 2) && not (nat_eq (length p.payload) 0))
    || nat_lt item_limit (length p.payload)) (list_any (nat_le (2 ^ 20)) p.payload) b.0 in
    let g =
    or_parts (nat_lt 3 p.function || ((nat_eq p.function 1 || nat_eq p.function 2) && not (nat_eq (length p.payload) 0)))
    (nat_lt item_limit (length p.payload)) f.0 in
    let h = or_parts (nat_lt 3 p.function) ((nat_eq p.function 1 || nat_eq p.function 2) && not (nat_eq (length p.payload) 0)) g.0 in
    record {
      address = below_next last_address p.address (not_above last_address p.address a.0);
      unreserved = r.0;
      function = below_next 3 p.function (not_above 3 p.function h.0);
      few = not_above item_limit (length p.payload) g.1;
      small = none_large p.payload f.1;
      silent = λ w. empty_where_unwanted _ p.payload h.1 (unwanted p.function w);
    }

pub good_pages : (ps : List Page) → AreGood ps → All IsGoodPage ps
good_pages ps good = λ k d h. good_page _ (good.each k d h)

low_same : (q a : ℕ) → nat_eq q a ≡ true → a < 2 ^ 21 → q < 2 ^ 21
low_same q a e low = grind (arith, nat_tests)

differ : (a b : ℕ) → nat_eq a b ≡ false → a ≢ b
differ a b e h = grind (arith, nat_tests)

has_low : (ps : List Page) → All (λ p. page_fault_of p ≡ None) ps → (q : ℕ) → list_any (nat_eq q) (addresses_of ps) ≡ true → q < 2 ^ 21
has_low [] fine q h = absurd (cc)
has_low (p ∷ ps) fine q h =
    let low : p.address < 2 ^ 21 = (good_page p (All-head (λ r. page_fault_of r ≡ None) p ps fine)).address in
    elim (or_cases (nat_eq q p.address) (list_any (nat_eq q) (addresses_of ps)) h) [
      | inl e ↦ low_same q p.address e low
      | inr e ↦ has_low ps (All-tail (λ r. page_fault_of r ≡ None) p ps fine) q e
    ]

-- there are no more pages than addresses
pub few_pages : (ps : List Page) → AreGood ps → length ps ≤ 2 ^ 21
few_pages ps good =
    rw length-map at (length-le_from_distinct_below (addresses_of ps) (2 ^ 21) good.apart (λ q h. has_low ps good.each q h))

pub apart_pages : (ps : List Page) → AreGood ps → AreApart ps
apart_pages ps good = λ j k d below within.
    let far = apart_from_distinct nat_eq (addresses_of ps) j k d.address good.apart below (rw length-map within) in
    let f : Page → ℕ = λ q. q.address in
    differ _ _ (rw (get_or-map f ps j d, get_or-map f ps k d) at far)
