-- The first pages of a round are a round, and the others may stand in one.
use Rattle.pocsag_pages.proofs.Prelude.{◌≡◌, ℕ, ◌+◌, ◌<◌, ◌≤◌, List, length, take, drop, nat_eq, arith, subst, None, IsDistinct, drop-map, get_or-drop, get_or-take, length-drop, length-take, length-take-le, take-map, All-drop, All-take, IsDistinct-from_apart, apart_from_distinct, Page, AreGood, IsRound, addresses_of, page_fault_of}

distinct_first : (n : ℕ) (ks : List ℕ) → IsDistinct nat_eq ks → IsDistinct nat_eq (take n ks)
distinct_first n ks h = IsDistinct-from_apart nat_eq (take n ks) (λ i j d below within.
    let low : j < n = omega (arith, length-take n ks) in
    let inside : j < length ks = omega (arith, length-take n ks) in
    let before : i < n = omega arith in
    rw (get_or-take n ks i d before, get_or-take n ks j d low) (apart_from_distinct nat_eq ks i j d h below inside))

pub first_round : (n : ℕ) (R : List Page) → IsRound R → 0 < n → n ≤ length R → IsRound (take n R)
first_round n R round some among =
    let f : Page → ℕ = λ p. p.address in
    let long : length (take n R) ≡ n = length-take-le n R among in
    record {
      some = omega arith;
      few = omega (arith, round.few);
      good = record {
        each = All-take (λ p. page_fault_of p ≡ None) n R round.good.each;
        apart = subst (IsDistinct nat_eq) (take-map f n R) (distinct_first n (addresses_of R) round.good.apart);
      };
    }

distinct_last : (n : ℕ) (ks : List ℕ) → IsDistinct nat_eq ks → IsDistinct nat_eq (drop n ks)
distinct_last n ks h = IsDistinct-from_apart nat_eq (drop n ks) (λ i j d below within.
    let order : n + i < n + j = omega arith in
    let inside : n + j < length ks = omega (arith, length-drop n ks) in
    rw (get_or-drop n ks i d, get_or-drop n ks j d) (apart_from_distinct nat_eq ks (n + i) (n + j) d h order inside))

pub good_last : (n : ℕ) (R : List Page) → AreGood R → AreGood (drop n R)
good_last n R good =
    let f : Page → ℕ = λ p. p.address in
    record {
      each = All-drop (λ p. page_fault_of p ≡ None) n R good.each;
      apart = subst (IsDistinct nat_eq) (drop-map f n R) (distinct_last n (addresses_of R) good.apart);
    }
