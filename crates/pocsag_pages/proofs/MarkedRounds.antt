-- The addresses of a round that grows, marked by bits.
use Rattle.pocsag_pages.proofs.Prelude.{◌≡◌, ◌≢◌, ℕ, ◌+◌, ◌*◌, ◌/◌, ◌%◌, ◌^◌, ◌<◌, ◌≤◌, true, false, ◌||◌, List, [], ◌∷◌, ◌++◌, length, drop, get_or, set, take, nat_eq, bit_or, bit_and, inl, inr, refl, sym, ap, ◌∙◌, arith, None, bit_at, w64, cases_eq, cases_lt, eq-eqb, ne_eqb, get_or-set_same, get_or-set_other, get_or_past, drop_more, map-append, take-append-drop, take_more, list_any-append, list_any, Page, is_marked, addresses_of, has_address, IsMarkedRound}
use Rattle.std.proofs.Math.Bool.{or-true, or_comm}
use Rattle.std.proofs.lemmas.Nat.Bits.{bit_at-zero, bit_at_set_same, bit_at_set_other, shr_and_one}
use Rattle.pocsag_pages.proofs.GrownRounds.{good_none, has_push}

-- no address is marked at first
pub none_marked : (words : List ℕ) → ((k : ℕ) → k < length words → get_or words k 0 ≡ 0) → (a : ℕ) → is_marked words a ≡ false
unfolding is_marked
none_marked words zeros a =
    let none : get_or words (a / 64) 0 ≡ 0 = elim (cases_lt (a / 64) (length words)) [
      | inl below ↦ zeros (a / 64) below
      | inr past ↦ get_or_past words (a / 64) 0 past
    ] in
    rw (none, bit_at-zero (a % 64)) refl

-- the test of a bit
pub word_found : (words : List ℕ) (a word : ℕ) → word ≡ get_or words (a / 64) 0 → nat_eq (bit_and (word / 2 ^ (a % 64)) 1) 1 ≡ is_marked words a
unfolding is_marked
word_found words a word e = rw (shr_and_one word (a % 64), e) refl

pub word_past : (words : List ℕ) (a : ℕ) → length words ≤ a / 64 → false ≡ is_marked words a
unfolding is_marked
word_past words a past = rw (get_or_past words (a / 64) 0 past, bit_at-zero (a % 64)) refl

-- one address more is marked
pub one_marked : (words : List ℕ) (b a : ℕ) → b / 64 < length words →
    is_marked (set words (b / 64) (bit_or (get_or words (b / 64) 0) (1 * 2 ^ (b % 64) % 2 ^ 64))) a ≡ (nat_eq a b || is_marked words a)
unfolding is_marked
one_marked words b a within =
    elim (cases_eq (a / 64) (b / 64)) [
      | inl same ↦ here same
      | inr other ↦
          let apart : nat_eq a b ≡ false = ne_eqb a b (λ q. other (ap (λ n. n / 64) q)) in
          rw (apart, get_or-set_other words (b / 64) (a / 64) (bit_or (get_or words (b / 64) 0) (1 * 2 ^ (b % 64) % 2 ^ 64)) 0 other) refl
    ]
  where
    here : a / 64 ≡ b / 64 →
        nat_eq (bit_at (get_or (set words (b / 64) (bit_or (get_or words (b / 64) 0) (1 * 2 ^ (b % 64) % 2 ^ 64))) (a / 64) 0) (a % 64)) 1
        ≡ (nat_eq a b || nat_eq (bit_at (get_or words (a / 64) 0) (a % 64)) 1)
    here same =
        elim (cases_eq (a % 64) (b % 64)) [
          | inl low ↦
              let one : a ≡ b = omega arith in
              let is : nat_eq a b ≡ true = eq-eqb a b one in
              rw (
                is,
                same,
                get_or-set_same words (b / 64) (bit_or (get_or words (b / 64) 0) (1 * 2 ^ (b % 64) % 2 ^ 64)) 0 within,
                low,
                bit_at_set_same w64 (get_or words (b / 64) 0) (b % 64) (omega arith),
              ) refl
          | inr low ↦
              let apart : nat_eq a b ≡ false = ne_eqb a b (λ q. low (ap (λ n. n % 64) q)) in
              rw (
                apart,
                same,
                get_or-set_same words (b / 64) (bit_or (get_or words (b / 64) 0) (1 * 2 ^ (b % 64) % 2 ^ 64)) 0 within,
                bit_at_set_other w64 (get_or words (b / 64) 0) (b % 64) (omega arith) (a % 64) low,
              ) refl
        ]

-- the marks of one page more
pub marks_push : (ps : List Page) (p : Page) (words more : List ℕ) → ((a : ℕ) → is_marked words a ≡ has_address ps a) →
    ((a : ℕ) → is_marked more a ≡ (nat_eq a p.address || is_marked words a)) → (a : ℕ) → is_marked more a ≡ has_address (ps ++ p ∷ []) a
marks_push ps p words more are step a =
    step a ∙ ap (λ b. nat_eq a p.address || b) (are a) ∙ or_comm (nat_eq a p.address) (has_address ps a) ∙ sym (has_push ps p a)

pub marked_none : IsMarkedRound [] None
marked_none = record { good = good_none; marked = tt }

-- a look through the pages
pub found_there : (ps : List Page) (i : ℕ) (p : Page) (a : ℕ) → i < length ps → p ≡ get_or ps i p → p.address ≡ a → true ≡ has_address ps a
found_there ps i p a within here same =
    let first : drop i ps ≡ p ∷ drop (i + 1) ps = drop_more ps i p within ∙ ap (λ (q : Page). q ∷ drop (i + 1) ps) (sym here) in
    let whole : ps ≡ take i ps ++ p ∷ drop (i + 1) ps = sym (take-append-drop i ps) ∙ ap (λ (qs : List Page). take i ps ++ qs) first in
    let is : nat_eq a p.address ≡ true = eq-eqb a p.address (sym same) in
    let joined = map-append (λ (q : Page). q.address) (take i ps) (p ∷ drop (i + 1) ps) in
    sym
    (ap (λ (qs : List Page). has_address qs a) whole ∙ ap (list_any (nat_eq a)) joined
    ∙ list_any-append (nat_eq a) (addresses_of (take i ps)) (p.address ∷ addresses_of (drop (i + 1) ps))
    ∙ rw is (or-true (has_address (take i ps) a)))

pub none_there : (ps : List Page) (i : ℕ) (p : Page) (a : ℕ) → i < length ps → p ≡ get_or ps i p → p.address ≢ a →
    has_address (take i ps) a ≡ false → has_address (take (i + 1) ps) a ≡ false
none_there ps i p a within here other so_far =
    let more : take (i + 1) ps ≡ take i ps ++ p ∷ [] = take_more ps i p within ∙ ap (λ (q : Page). take i ps ++ q ∷ []) (sym here) in
    let apart : nat_eq a p.address ≡ false = ne_eqb a p.address (λ e. other (sym e)) in
    ap (λ (qs : List Page). has_address qs a) more ∙ has_push (take i ps) p a ∙ rw (so_far, apart) refl
