-- Queues of places in one list: a place put in front, and the first place taken.
use Rattle.pocsag_batch.proofs.Prelude.{◌≡◌, ℕ, zero, suc, ◌+◌, ◌<◌, ◌==◌, Bool, true, false, cond, List, [], ◌∷◌, All, length, refl, get_or, sym, ap, ◌∙◌, subst, arith, inl, inr, slice_index, slice_set, filter, range_with_len, cases_eq, get_or_default, length-set, All-head, End, Page, Links, AreChains, class_at, page_at, places_of, get_or-set_same, get_or-set_other, eqb-true, filter_passes, class_of_page, IsChain}
use Rattle.std.proofs.lemmas.Grind.{get_or-set_at}
use Rattle.pocsag_batch.proofs.ClassLists.{class_left, of_class_in, of_class_out, others_left, without}
use Rattle.pocsag_slots.proofs.CountLemmas.{page_class_below}

-- the class of the page that is read at a place
pub class_at_item : (end : End) (R : List Page) (at : ℕ) (p : Page) → at < length R → p ≡ get_or R at p
    → class_of_page end p ≡ class_at end R at
class_at_item end R at p h is = ap (class_of_page end) (is ∙ get_or_default R at p _ h)

kept_step : (next : List ℕ) (at v j h : ℕ) (ks : List ℕ) (b : Bool) → at < j →
    ((g : ℕ) → IsChain next g ks → IsChain (slice_set next at v) g ks) →
    IsChain next h (cond b (j ∷ ks) ks) → IsChain (slice_set next at v) h (cond b (j ∷ ks) ks)
kept_step next at v j h ks true l rest chain =
    let same : slice_index (slice_set next at v) j ≡ slice_index next j = get_or-set_other next at j v 0 (omega arith) in
    let long : length (slice_set next at v) ≡ length next = length-set next at v in
    let within : j < length next = chain.1 in
    (chain.0, omega arith, rw same (rest (slice_index next j) chain.2))
kept_step next at v j h ks false l rest chain = rest h chain

-- a next place written before the first of the places
chain_kept : (next : List ℕ) (at v : ℕ) (test : ℕ → Bool) (m j h : ℕ) → at < j → IsChain next h (filter test (range_with_len j m)) →
    IsChain (slice_set next at v) h (filter test (range_with_len j m))
chain_kept next at v test zero j h l chain = tt
chain_kept next at v test (suc m) j h l chain =
    kept_step next at v j h (filter test (range_with_len (j + 1) m)) (test j) l
    (λ g. chain_kept next at v test m (j + 1) g (omega arith)) chain

chain_same : (next new : List ℕ) (g h : ℕ) (ks js : List ℕ) → new ≡ next → h ≡ g → js ≡ ks → IsChain next g ks → IsChain new h js
chain_same next new g h ks js nexts places lists chain =
    rw nexts
    (rw places (rw lists chain))

-- one place more in front
pub chains_added : (end : End) (R : List Page) (next head : List ℕ) (at m c : ℕ) → at < length next → c ≡ class_at end R at → c < 136 →
    AreChains end R (record { next = next; head = head }) (range_with_len (at + 1) m) →
    AreChains end R (record { next = slice_set next at (slice_index head c); head = slice_set head c at }) (range_with_len at (suc m))
chains_added end R next head at m c within class small a =
    let f : ℕ → ℕ = class_at end R in
    let left : List ℕ = range_with_len (at + 1) m in
    let new : List ℕ = slice_set next at (slice_index head c) in
    let heads : List ℕ = slice_set head c at in
    let many : length head ≡ 136 = a.long in
    let long : length new ≡ length next = length-set next at (slice_index head c) in
    record {
      long = length-set head c at ∙ many;
      chain = λ d h.
          let kept : IsChain new (slice_index head d) (places_of end R d left) =
          chain_kept next at (slice_index head c) (λ k. f k == d) m (at + 1) (slice_index head d) (omega arith) (a.chain d h) in
          elim (cases_eq (f at) d) [
            | inl same ↦
                let first : slice_index heads d ≡ at = get_or-set_at head c d at 0 (sym (class ∙ same)) (omega arith) in
                let after : slice_index new at ≡ slice_index head d =
                get_or-set_same next at (slice_index head c) 0 within ∙ ap (slice_index head) (class ∙ same) in
                rw (of_class_in f d at left same)
                (first, omega arith, rw after kept)
            | inr other ↦
                let first : slice_index heads d ≡ slice_index head d = get_or-set_other head c d at 0 (λ e. other (sym (e ∙ class))) in
                chain_same new new (slice_index head d) (slice_index heads d) (places_of end R d left) (places_of end R d (at ∷ left))
                refl first (of_class_out f d at left other) kept
          ];
    }

-- the first place of the class, and the others
pub record Takes (end : End) (R : List Page) (links : Links) (left : List ℕ) (c : ℕ) : Type 0 where
  pub place : ℕ
  pub others : List ℕ
  pub first : places_of end R c left ≡ place ∷ others
  pub class : class_at end R place ≡ c
  pub small : c < 136
  pub head : slice_index links.head c ≡ place
  pub within : place < length links.next
  pub chain : IsChain links.next (slice_index links.next place) others

pub takes_from : (end : End) (R : List Page) (links : Links) (left : List ℕ) (c : ℕ) (ks : List ℕ) → AreChains end R links left →
    places_of end R c left ≡ ks → 0 < length ks → Takes end R links left c
takes_from end R links left c [] chains is some = absurd (omega arith)
takes_from end R links left c (k ∷ ks) chains is some =
    let each : All (λ x. (class_at end R x == c) ≡ true) (k ∷ ks) =
    subst (λ v. All (λ x. (class_at end R x == c) ≡ true) v) is (filter_passes (λ x. class_at end R x == c) left) in
    let class : class_at end R k ≡ c = eqb-true (class_at end R k) c (All-head (λ x. (class_at end R x == c) ≡ true) k ks each) in
    let below : class_at end R k < 136 = page_class_below end (page_at R k) in
    let small : c < 136 = omega arith in
    let chain : IsChain links.next (slice_index links.head c) (k ∷ ks) =
    subst (λ v. IsChain links.next (slice_index links.head c) v) is (chains.chain c small) in
    record {
      place = k;
      others = ks;
      first = is;
      class = class;
      small = small;
      head = chain.0;
      within = chain.1;
      chain = chain.2;
    }

-- the queues without the place
pub chains_left : (end : End) (R : List Page) (links new : Links) (left : List ℕ) (c k : ℕ) → AreChains end R links left →
    Takes end R links left c → k ≡ slice_index links.head c → new.next ≡ links.next →
    new.head ≡ slice_set links.head c (slice_index links.next k) → AreChains end R new (without (class_at end R) c left)
chains_left end R links new left c k a t first nexts heads =
    let f : ℕ → ℕ = class_at end R in
    let many : length links.head ≡ 136 = a.long in
    let small : c < 136 = t.small in
    let after : ℕ = slice_index links.next k in
    record {
      long = ap length heads ∙ (length-set links.head c after ∙ many);
      chain = λ d h.
          let places : List ℕ = places_of end R d (without f c left) in
          let head : slice_index new.head d ≡ slice_index (slice_set links.head c after) d = ap (λ v. slice_index v d) heads in
          elim (cases_eq c d) [
            | inl same ↦
                let now : slice_index new.head d ≡ slice_index links.next t.place =
                head ∙ (get_or-set_at links.head c d after 0 (sym same) (omega arith) ∙ ap (slice_index links.next) (first ∙ t.head)) in
                let others : places ≡ t.others =
                ap (λ m. places_of end R m (without f c left)) (sym same) ∙ class_left f c left t.place t.others t.first in
                chain_same links.next new.next (slice_index links.next t.place)
                (slice_index new.head d) t.others places nexts now others t.chain
            | inr other ↦
                let now : slice_index new.head d ≡ slice_index links.head d =
                head ∙ get_or-set_other links.head c d after 0 (λ e. other (sym e)) in
                chain_same links.next new.next (slice_index links.head d) (slice_index new.head d) (places_of end R d left) places
                nexts now (others_left f c d left other) (a.chain d h)
          ];
    }
