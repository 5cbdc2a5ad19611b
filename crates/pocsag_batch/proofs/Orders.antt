-- The loop of `order_of`: each run takes the first place of its class that is left, and then the places are an order.
use Rattle.pocsag_batch.proofs.Prelude.{◌≡◌, ℕ, ◌+◌, ◌<◌, ◌==◌, Bool, true, false, cond, List, [], ◌∷◌, ◌++◌, All, length, map, refl, sym, ap, ◌∙◌, arith, eq-eqb, inl, inr, slice_index, slice_set, append_assoc, cases_eq, ne_eqb, append-nil, nil_from_length, All-head, All-tail, End, Page, Step, runs, IsTourFor, Links, AreChains, all_places, class_at, places_of, run_classes, HavePlaces, IsOrder, map_push, filter-append, All-permutation, first_runs}
use Rattle.pocsag_slots.specs.declared.step.Step.TheVariants.{Idle as Stay, Run}
use Rattle.pocsag_batch.proofs.Chains.{Takes, chains_left, takes_from}
use Rattle.pocsag_batch.proofs.ClassLists.{alike_permuted, class_left, never_none, of_class, of_class_in, of_class_out, others_left, rest_same, without}
use Rattle.pocsag_batch.proofs.Places.{all_within, tour_serves}

-- what the loop keeps, with the rest of the steps to come: the places that are left are those that the
-- queues have and that the runs to come take
pub record Stands (end : End) (R : List Page) (links : Links) (order : List ℕ) (steps rest : List Step) : Type 0 where
  pub left : List ℕ
  pub chains : AreChains end R links left
  pub enough : (c : ℕ) → runs c true rest + runs c false rest ≡ length (places_of end R c left)
  pub classes : map (class_at end R) order ++ run_classes rest ≡ run_classes steps
  pub in_turn : (c : ℕ) → places_of end R c order ++ places_of end R c left ≡ places_of end R c (all_places R)

pub stands_first : (end : End) (R : List Page) (links : Links) (steps : List Step) → AreChains end R links (all_places R)
    → IsTourFor end R steps →
    Stands end R links [] steps steps
stands_first end R links steps chains tour = record {
  left = all_places R;
  chains = chains;
  enough = tour_serves end R steps tour;
  classes = refl;
  in_turn = λ c. refl;
}

pub takes : (end : End) (R : List Page) (links : Links) (order : List ℕ) (steps rest : List Step) (c : ℕ) (e : Bool) →
    (s : Stands end R links order steps (Run c e ∷ rest)) → Takes end R links s.left c
takes end R links order steps rest c e s =
    let one : runs c true (Run c e ∷ rest) + runs c false (Run c e ∷ rest) ≡ 1 + (runs c true rest + runs c false rest) =
    first_runs c e rest c ∙ ap (λ b. cond b 1 0 + (runs c true rest + runs c false rest)) (eq-eqb c c refl) in
    let all : runs c true (Run c e ∷ rest) + runs c false (Run c e ∷ rest) ≡ length (places_of end R c s.left) = s.enough c in
    takes_from end R links s.left c (places_of end R c s.left) s.chains refl (omega arith)

-- what is left of each class when a run took its first place
enough_left : (f : ℕ → ℕ) (left : List ℕ) (c k : ℕ) (ks : List ℕ) (e : Bool) (rest : List Step) → of_class f c left ≡ k ∷ ks →
    ((d : ℕ) → runs d true (Run c e ∷ rest) + runs d false (Run c e ∷ rest) ≡ length (of_class f d left)) →
    (d : ℕ) → runs d true rest + runs d false rest ≡ length (of_class f d (without f c left))
enough_left f left c k ks e rest first enough d =
    let all : runs d true (Run c e ∷ rest) + runs d false (Run c e ∷ rest) ≡ length (of_class f d left) = enough d in
    elim (cases_eq c d) [
      | inl same ↦
          let one : runs d true (Run c e ∷ rest) + runs d false (Run c e ∷ rest) ≡ 1 + (runs d true rest + runs d false rest) =
          first_runs c e rest d ∙ ap (λ b. cond b 1 0 + (runs d true rest + runs d false rest)) (eq-eqb c d same) in
          let many : length (of_class f d left) ≡ 1 + length ks = ap (λ m. length (of_class f m left)) (sym same)
          ∙ (ap length first ∙ omega arith) in
          let fewer : length (of_class f d (without f c left)) ≡ length ks =
          ap (λ m. length (of_class f m (without f c left))) (sym same) ∙ ap length (class_left f c left k ks first) in
          omega arith
      | inr other ↦
          let none : runs d true (Run c e ∷ rest) + runs d false (Run c e ∷ rest) ≡ 0 + (runs d true rest + runs d false rest) =
          first_runs c e rest d ∙ ap (λ b. cond b 1 0 + (runs d true rest + runs d false rest)) (ne_eqb c d other) in
          let same : length (of_class f d (without f c left)) ≡ length (of_class f d left) = ap length (others_left f c d left other) in
          omega arith
    ]

-- the place moves from what is left to the order
turns_left : (f : ℕ → ℕ) (order left : List ℕ) (c k : ℕ) (ks : List ℕ) → of_class f c left ≡ k ∷ ks → f k ≡ c →
    (d : ℕ) → of_class f d (order ++ k ∷ []) ++ of_class f d (without f c left) ≡ of_class f d order ++ of_class f d left
turns_left f order left c k ks first class d =
    ap (λ v. v ++ of_class f d (without f c left)) (filter-append (λ x. f x == d) order (k ∷ []))
    ∙ (append_assoc (of_class f d order) (of_class f d (k ∷ [])) (of_class f d (without f c left))
    ∙ ap (λ v. of_class f d order ++ v) here)
  where
    here : of_class f d (k ∷ []) ++ of_class f d (without f c left) ≡ of_class f d left
    here =
        elim (cases_eq c d) [
          | inl same ↦
              ap (λ v. v ++ of_class f d (without f c left)) (of_class_in f d k [] (class ∙ same))
              ∙ (ap (λ m. k ∷ of_class f m (without f c left)) (sym same)
              ∙ (ap (λ v. k ∷ v) (class_left f c left k ks first)
              ∙ (sym first ∙ ap (λ m. of_class f m left) same)))
          | inr other ↦
              ap (λ v. v ++ of_class f d (without f c left)) (of_class_out f d k [] (λ e. other (sym class ∙ e)))
              ∙ others_left f c d left other
        ]

pub stands_run : (end : End) (R : List Page) (links new : Links) (order : List ℕ) (steps rest : List Step) (c k : ℕ) (e : Bool) →
    Stands end R links order steps (Run c e ∷ rest) → k ≡ slice_index links.head c → new.next ≡ links.next →
    new.head ≡ slice_set links.head c (slice_index links.next k) → Stands end R new (order ++ k ∷ []) steps rest
stands_run end R links new order steps rest c k e s first nexts heads =
    let f : ℕ → ℕ = class_at end R in
    let t = takes end R links order steps rest c e s in
    let place : t.place ≡ k = sym (first ∙ t.head) in
    let is : places_of end R c s.left ≡ k ∷ t.others = t.first ∙ ap (λ n. n ∷ t.others) place in
    let class : f k ≡ c = ap f (sym place) ∙ t.class in
    record {
      left = without f c s.left;
      chains = chains_left end R links new s.left c k s.chains t first nexts heads;
      enough = enough_left f s.left c k t.others e rest is s.enough;
      classes =
          ap (λ v. v ++ run_classes rest) (map_push f order k)
          ∙ (append_assoc (map f order) (f k ∷ []) (run_classes rest)
          ∙ (ap (λ n. map f order ++ (n ∷ run_classes rest)) class ∙ s.classes));
      in_turn = λ d. turns_left f order s.left c k t.others is class d ∙ s.in_turn d;
    }

-- after all steps no place is left
pub order_stands : (end : End) (R : List Page) (links : Links) (order : List ℕ) (steps rest : List Step) → rest ≡ [] →
    Stands end R links order steps rest → IsOrder end R steps order
order_stands end R links order steps rest done s =
    let f : ℕ → ℕ = class_at end R in
    let last : Stands end R links order steps [] = rw (← done) s in
    let none : (c : ℕ) → places_of end R c last.left ≡ [] = λ c. nil_from_length (places_of end R c last.left) (sym (last.enough c)) in
    let turns : (c : ℕ) → places_of end R c order ≡ places_of end R c (all_places R) =
    λ c. sym (append-nil (places_of end R c order)) ∙ (ap (λ v. places_of end R c order ++ v) (sym (none c)) ∙ last.in_turn c) in
    record {
      once = alike_permuted f (all_places R) order (λ c. sym (turns c));
      classes = sym (append-nil (map f order)) ∙ last.classes;
      in_turn = turns;
    }

have_places : (f : ℕ → ℕ) (n : ℕ) (order : List ℕ) (steps : List Step) → map f order ≡ run_classes steps → All (λ k. k < n) order
    → HavePlaces n order steps
have_places f n order [] m h = tt
have_places f n order (Stay ∷ ss) m h = have_places f n order ss m h
have_places f n [] (Run c e ∷ ss) m h = never_none c (run_classes ss) (sym m)
have_places f n (k ∷ order) (Run c e ∷ ss) m h = (
  All-head (λ j. j < n) k order h,
  have_places f n order ss (rest_same (f k) c (map f order) (run_classes ss) m)
      (All-tail (λ j. j < n) k order h),
)

pub order_has_places : (end : End) (R : List Page) (steps : List Step) (order : List ℕ) → IsOrder end R steps order
    → HavePlaces (length R) order steps
order_has_places end R steps order o =
    have_places (class_at end R) (length R) order steps o.classes
    (All-permutation (λ k. k < length R) (all_places R) order o.once (all_within (length R)))
