-- The addresses of pages, those that are smaller than one, and tables of them.
use Rattle.pocsag_show.proofs.Prelude.{◌≡◌, ◌≢◌, ℕ, zero, suc, ◌+◌, ◌/◌, ◌^◌, ◌<◌, ◌≤◌, ◌==◌, List, [], ◌∷◌, length, map, get_or, set, get_or-set_other, replicate, slice_index, true, false, refl, ap, ap₂, sym, inl, inr, ◌∙◌, arith, All, cond, nat_lt, count_by, IsPartitionPoint, IsPermutation, cases_eq, cases_lt, eq-eqb, ne_eqb, lt-ltb, le-ltb, All-cons, All-head, All-nil, All-tail, sum_by-IsPermutation, count_by-le-length, sum_by-cons, length-replicate, kind_of, Kind, codewords_in, addresses_of, pages_from, Page, pages_below, pages_begun, smaller_in, addresses_ahead, kinds_ahead}
use Rattle.std.proofs.lemmas.Grind.{get_or-set_at}
use Rattle.pocsag_show.specs.declared.kind_reader.KindReader.{KindReader}

-- how many of the addresses are this one
abbrev pub equal_in : List ℕ → ℕ → ℕ
equal_in addresses address = count_by (λ other. other == address) addresses

equal_in-cons : (x : ℕ) (xs : List ℕ) (a : ℕ) → equal_in (x ∷ xs) a ≡ cond (x == a) 1 0 + equal_in xs a
equal_in-cons x xs a = sum_by-cons (λ (x : ℕ). cond (x == a) 1 0) x xs

smaller_in-cons : (x : ℕ) (xs : List ℕ) (a : ℕ) → smaller_in (x ∷ xs) a ≡ cond (nat_lt x a) 1 0 + smaller_in xs a
smaller_in-cons x xs a = sum_by-cons (λ (x : ℕ). cond (nat_lt x a) 1 0) x xs

pub pages_below_are : (ps : List Page) (a : ℕ) → smaller_in (addresses_of ps) a ≡ pages_below ps a
pages_below_are [] a = refl
pages_below_are (p ∷ ps) a =
    omega (arith, smaller_in-cons p.address (addresses_of ps) a, sum_by-cons (λ (p : Page). cond (nat_lt p.address a) 1 0) p ps, pages_below_are ps a)

-- in another order
pub sorted_below : (ps : List Page) (collected sorted : List ℕ) → collected ≡ addresses_of ps → IsPermutation collected sorted → (a : ℕ)
    → smaller_in sorted a ≡ pages_below ps a
sorted_below ps collected sorted are moved a =
    sum_by-IsPermutation (λ (x : ℕ). cond (nat_lt x a) 1 0) collected sorted moved
    ∙ (ap (λ (xs : List ℕ). smaller_in xs a) are ∙ pages_below_are ps a)

-- where the smaller ones stand first, so many
pub smaller_first : (xs : List ℕ) (address i : ℕ) → i ≤ length xs
    → IsPartitionPoint (λ x. nat_lt x address ≡ true) (λ x. nat_lt x address ≡ false) xs i → smaller_in xs address ≡ i
smaller_first [] address i within point = omega arith
smaller_first (x ∷ xs) address zero within point =
    let none = smaller_first xs address zero (omega arith) (λ k d low high. absurd (omega arith), λ k d low high. point.1 (suc k) d (omega arith) (omega arith)) in
    let first : nat_lt x address ≡ false = point.1 0 0 (omega arith) (omega arith) in
    smaller_in-cons x xs address ∙ rw first (omega (arith, none))
smaller_first (x ∷ xs) address (suc i) within point =
    let rest = smaller_first xs address i (omega arith)
    (λ k d low high. point.0 (suc k) d (omega arith) (omega arith), λ k d low high. point.1 (suc k) d (omega arith) (omega arith)) in
    let first : nat_lt x address ≡ true = point.0 0 0 (omega arith) (omega arith) in
    smaller_in-cons x xs address ∙ rw first (omega (arith, rest))

-- none is below 0, and one address more
not_below : (x : ℕ) → cond {A = ℕ} (nat_lt x 0) 1 0 ≡ 0
not_below x = rw (le-ltb x 0 (omega arith)) refl

pub none_smaller : (xs : List ℕ) → smaller_in xs 0 ≡ 0
none_smaller [] = refl
none_smaller (x ∷ xs) =
    omega (arith, smaller_in-cons x xs 0, not_below x, none_smaller xs)

one_smaller : (x a : ℕ) → cond (nat_lt x (a + 1)) 1 0 ≡ cond (nat_lt x a) 1 0 + cond (x == a) 1 0
one_smaller x a =
    elim (cases_lt x a) [
      | inl h ↦
          let m : x < a + 1 = omega arith in
          let n : x ≢ a = omega arith in
          rw (lt-ltb x a h, lt-ltb x (a + 1) m, ne_eqb x a n) refl
      | inr h ↦ elim (cases_eq x a) [
        | inl e ↦ let m : x < a + 1 = omega arith in rw (le-ltb x a h, lt-ltb x (a + 1) m, eq-eqb x a e) refl
        | inr n ↦ let m : a + 1 ≤ x = omega arith in rw (le-ltb x a h, le-ltb x (a + 1) m, ne_eqb x a n) refl
      ]
    ]

pub smaller_next : (xs : List ℕ) (a : ℕ) → smaller_in xs (a + 1) ≡ smaller_in xs a + equal_in xs a
smaller_next [] a = refl
smaller_next (x ∷ xs) a =
    omega (arith, smaller_in-cons x xs (a + 1), smaller_in-cons x xs a, equal_in-cons x xs a, one_smaller x a, smaller_next xs a)

-- all addresses are left
pub all_ahead : (r : KindReader) (X : List ℕ) → kinds_ahead r ≡ map kind_of (codewords_in X) → r.index ≡ 0
    → addresses_ahead r ≡ addresses_of (pages_begun X)
all_ahead r X kinds first = ap₂ (λ (i : ℕ) (ks : List Kind). addresses_of (pages_from i ks)) first kinds

-- addresses have 21 bits
addresses_more : (w i : ℕ) (ks : List Kind) → ((j : ℕ) → All (λ p. p.address < 2 ^ 21) (pages_from j ks))
    → All (λ p. p.address < 2 ^ 21) (pages_from i (kind_of w ∷ ks))
addresses_more w i ks h =
    elim (cases_eq w 0x7a89c197) [
      | inl e ↦ rw (eq-eqb _ _ e) (h (i + 1))
      | inr n ↦ elim (cases_lt (w / 2048) (2 ^ 20)) [
        | inl p ↦ rw (ne_eqb _ _ n, lt-ltb _ _ p) (All-cons (λ (p : Page). p.address < 2 ^ 21) _ (pages_from (i + 1) ks) (omega arith) (h (i + 1)))
        | inr p ↦ rw (ne_eqb _ _ n, le-ltb _ _ p) (h (i + 1))
      ]
    ]

pub addresses_small : (ws : List ℕ) (i : ℕ) → All (λ p. p.address < 2 ^ 21) (pages_from i (map kind_of ws))
addresses_small [] i = All-nil (λ (p : Page). p.address < 2 ^ 21)
addresses_small (w ∷ ws) i = addresses_more w i (map kind_of ws) (λ j. addresses_small ws j)

-- the numbers that are kept are those of pages
pub numbers_are : (number_of : ℕ → ℕ) (all ps : List Page) → ((a : ℕ) → a < 2 ^ 21 → number_of a ≡ pages_below all a)
    → All (λ p. p.address < 2 ^ 21) ps → map (λ p. number_of p.address) ps ≡ map (λ p. pages_below all p.address) ps
numbers_are number_of all [] are small = refl
numbers_are number_of all (p ∷ ps) are small =
    ap₂ (λ (n : ℕ) (ns : List ℕ). n ∷ ns) (are p.address (All-head (λ (p : Page). p.address < 2 ^ 21) p ps small))
    (numbers_are number_of all ps are (All-tail (λ (p : Page). p.address < 2 ^ 21) p ps small))

-- one address more was counted
pub address_counted : (before after : List ℕ) (address a n : ℕ) (left rest : List ℕ) → address < length before
    → after ≡ set before address (get_or before address 0 + 1) → left ≡ address ∷ rest → get_or before a 0 + equal_in left a ≡ n
    → get_or after a 0 + equal_in rest a ≡ n
address_counted before after address a n left rest within is first e =
    let next = ap (λ (xs : List ℕ). equal_in xs a) first ∙ equal_in-cons address rest a in
    elim (cases_eq a address) [
      | inl at ↦
          let one : cond {A = ℕ} (address == a) 1 0 ≡ 1 = rw (eq-eqb address a (sym at)) refl in
          let here : get_or after a 0 ≡ get_or before a 0 + 1 =
          ap (λ (l : List ℕ). get_or l a 0) is ∙ (get_or-set_at before address a (get_or before address 0 + 1) 0 at within
          ∙ ap (λ (i : ℕ). get_or before i 0 + 1) (sym at)) in
          omega (arith, next, one, here, e)
      | inr other ↦
          let none : cond {A = ℕ} (address == a) 1 0 ≡ 0 = rw (ne_eqb address a (λ q. other (sym q))) refl in
          let here : get_or after a 0 ≡ get_or before a 0 =
          ap (λ (l : List ℕ). get_or l a 0) is ∙ get_or-set_other before address a (get_or before address 0 + 1) 0 other in
          omega (arith, next, none, here, e)
    ]

-- and it was not counted as often as there are addresses
pub counted_fits : (xs table left rest : List ℕ) (address : ℕ) → left ≡ address ∷ rest
    → get_or table address 0 + equal_in left address ≡ equal_in xs address → get_or table address 0 + 1 ≤ length xs
counted_fits xs table left rest address first e =
    let next = ap (λ (xs : List ℕ). equal_in xs address) first ∙ equal_in-cons address rest address in
    let one : cond {A = ℕ} (address == address) 1 0 ≡ 1 = rw (eq-eqb address address refl) refl in
    omega (arith, next, one, e, count_by-le-length (λ (x : ℕ). x == address) xs)

-- so many zeros
get_or_zeros : (n a : ℕ) → slice_index (replicate n 0) a ≡ 0
get_or_zeros zero a = refl
get_or_zeros (suc n) zero = refl
get_or_zeros (suc n) (suc a) = get_or_zeros n a

pub all_zeros : (table : List ℕ) (n : ℕ) → table ≡ replicate n 0 → (length table ≡ n) × ((a : ℕ) → slice_index table a ≡ 0)
all_zeros table n are = (ap length are ∙ length-replicate n 0, λ a. ap (λ (l : List ℕ). slice_index l a) are ∙ get_or_zeros n a)

-- the numbers below an address stand in the table, and from there on the counts
pub record IsNumbering (xs table : List ℕ) (address smaller : ℕ) : Type 0 where
  pub long : length table ≡ 2 ^ 21
  pub done : (a : ℕ) → a < address → get_or table a 0 ≡ smaller_in xs a
  pub next : smaller ≡ smaller_in xs address
  pub left : (a : ℕ) → address ≤ a → get_or table a 0 ≡ equal_in xs a

pub numbering_more : (xs table after : List ℕ) (address smaller count : ℕ) → address < length table → length after ≡ length table
    → count ≡ get_or table address 0 → after ≡ set table address smaller → IsNumbering xs table address smaller
    → IsNumbering xs after (address + 1) (smaller + count)
numbering_more xs table after address smaller count within same is set_is n = record {
  long = same ∙ n.long;
  done = λ a below.
      elim (cases_eq a address) [
        | inl at ↦
            ap (λ (l : List ℕ). get_or l a 0) set_is
            ∙ (get_or-set_at table address a smaller 0 at within ∙ (n.next ∙ ap (smaller_in xs) (sym at)))
        | inr other ↦
            ap (λ (l : List ℕ). get_or l a 0) set_is
            ∙ (get_or-set_other table address a smaller 0 other ∙ n.done a (omega arith))
      ];
  next = let here = n.left address (omega arith) in let now = n.next in omega (arith, smaller_next xs address);
  left = λ a from.
      let other : a ≢ address = omega arith in
      ap (λ (l : List ℕ). get_or l a 0) set_is
      ∙ (get_or-set_other table address a smaller 0 other ∙ n.left a (omega arith));
}
