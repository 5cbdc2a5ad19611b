-- The load of a slot against that of the slot before: the runs that start between them, and those that end.
use Rattle.pocsag_slots.proofs.Prelude.{◌≡◌, ℕ, zero, suc, [], ◌∷◌, ◌+◌, ◌-◌, ◌*◌, ◌/◌, ◌%◌, ◌<◌, ◌≤◌, ◌==◌, Bool, true, false, cond, slice_index, refl, sym, subst, ◌∙◌, arith, nat_tests, Classes, covered, ends_at, starts_at, IsChoice, class_load, load, class_rest, start_of, finish_of, sum_below}
use Rattle.pocsag_slots.proofs.CoverLemmas.{covered_is, start_below}
use Rattle.pocsag_slots.proofs.LoadLemmas.{load_few}
use Rattle.pocsag_slots.proofs.SumLemmas.{sum_below-add, sum_below-le, sum_below-part, sum_below-same, sum_below_more}

-- the boundary before, around the batch
abbrev pub before : ℕ → ℕ
before p = (p + 15) % 16

-- before the first class nothing starts or ends anywhere
pub sixteen_zeros : (p : ℕ) → p < 16 → slice_index (0 ∷ 0 ∷ 0 ∷ 0 ∷ 0 ∷ 0 ∷ 0 ∷ 0 ∷ 0 ∷ 0 ∷ 0 ∷ 0 ∷ 0 ∷ 0 ∷ 0 ∷ 0 ∷ []) p ≡ 0
sixteen_zeros p h = grind arith

at_place : (i p : ℕ) → p < 16 → cond (i % 16 == p) 1 0 + (i + 15 - p) / 16 ≡ (i + 16 - p) / 16
at_place i p h = grind (arith, nat_tests)

-- a run's codewords cover a slot more often than the one before exactly by the runs that start there
pub edge : (i n p : ℕ) → p < 16 → covered i n p + cond ((i + n) % 16 == p) 1 0 ≡ covered i n (before p) + cond (i % 16 == p) 1 0
edge i n zero h =
    omega (arith, covered_is i n 0 h, covered_is i n 15 (omega arith), at_place i 0 h, at_place (i + n) 0 h)
edge i n (suc p) h =
    let e : before (suc p) ≡ p = omega arith in
    rw e (omega (arith, covered_is i n (suc p) h, covered_is i n p (omega arith), at_place i (suc p) h, at_place (i + n) (suc p) h))

times_edge : (e a b : ℕ) (s t : Bool) → a + cond s 1 0 ≡ b + cond t 1 0 → e * a + cond s e 0 ≡ e * b + cond t e 0
times_edge e a b true true h = let same : a ≡ b = omega arith in rw same refl
times_edge e a b true false h = let same : b ≡ a + 1 = omega arith in rw same (omega arith)
times_edge e a b false true h = let same : a ≡ b + 1 = omega arith in rw same (omega arith)
times_edge e a b false false h = let same : a ≡ b = omega arith in rw same refl

run_edge : (e c p : ℕ) (f : Bool) → c < 136 → p < 16 →
    e * covered (start_of c f) (class_rest c) p + cond (finish_of c f == p) e 0
    ≡ e * covered (start_of c f) (class_rest c) (before p) + cond (start_of c f == p) e 0
unfolding finish_of
run_edge e c p f l h =
    let low : start_of c f % 16 ≡ start_of c f = (let s : start_of c f < 16 = start_below c f l in omega arith) in
    let one : covered (start_of c f) (class_rest c) p + cond ((start_of c f + class_rest c) % 16 == p) 1 0
    ≡ covered (start_of c f) (class_rest c) (before p) + cond (start_of c f == p) 1 0 =
    subst (λ (m : ℕ). covered (start_of c f) (class_rest c) p + cond ((start_of c f + class_rest c) % 16 == p) 1 0
    ≡ covered (start_of c f) (class_rest c) (before p) + cond (m == p) 1 0) low (edge (start_of c f) (class_rest c) p h) in
    times_edge e (covered (start_of c f) (class_rest c) p) (covered (start_of c f) (class_rest c) (before p))
    ((start_of c f + class_rest c) % 16 == p) (start_of c f == p) one

class_edge : (k : Classes) (choice : ℕ → ℕ) (p c : ℕ) → p < 16 → c < 136 →
    class_load k p c (choice c) + ends_at k choice p c ≡ class_load k (before p) c (choice c) + starts_at k choice p c
unfolding class_load
class_edge k choice p c h l =
    omega (arith, run_edge (choice c) c p true l h, run_edge (slice_index k.count c - choice c) c p false l h)

pub load_edge : (k : Classes) (choice : ℕ → ℕ) (p : ℕ) → p < 16 →
    load k choice p + sum_below 136 (ends_at k choice p) ≡ load k choice (before p) + sum_below 136 (starts_at k choice p)
unfolding load
load_edge k choice p h =
    sym (sum_below-add 136 (λ c. class_load k p c (choice c)) (ends_at k choice p))
    ∙ (sum_below-same 136 _ _ (λ c l. class_edge k choice p c h l)
    ∙ sum_below-add 136 (λ c. class_load k (before p) c (choice c)) (starts_at k choice p))

-- no more runs start or end than there are
pub part_few : (b : Bool) (x : ℕ) → cond b x 0 ≤ x
part_few true x = omega arith
part_few false x = omega arith

sums_few : (k : Classes) (f : ℕ → ℕ) (n : ℕ) → n ≤ 136 → ((c : ℕ) → c < n → f c ≤ slice_index k.count c) → sum_below n f ≤ 20000
sums_few k f n h each =
    omega (arith, sum_below-le n f (slice_index k.count) each, sum_below-part n 136 (slice_index k.count) h, k.tables.few)

parts_few : (b d : Bool) (x y : ℕ) → x ≤ y → cond b x 0 + cond d (y - x) 0 ≤ y
parts_few b d x y h = omega (arith, part_few b x, part_few d (y - x))

pub starts_few : (k : Classes) (choice : ℕ → ℕ) (p n : ℕ) → n ≤ 136 → IsChoice k choice → sum_below n (starts_at k choice p) ≤ 20000
starts_few k choice p n h chosen = sums_few k _ n h (λ c l. parts_few _ _ _ _ (chosen c (omega arith)))

pub ends_few : (k : Classes) (choice : ℕ → ℕ) (p n : ℕ) → n ≤ 136 → IsChoice k choice → sum_below n (ends_at k choice p) ≤ 20000
ends_few k choice p n h chosen = sums_few k _ n h (λ c l. parts_few _ _ _ _ (chosen c (omega arith)))

-- the sums with one class more
same_test : (a b p x y : ℕ) → a ≡ b → x ≡ y → cond (a == p) x 0 ≡ cond (b == p) y 0
same_test a b p x y e f = rw (e, f) refl

pub class_added : (f : ℕ → ℕ) (n old one two a b s t p x y : ℕ) → old ≡ sum_below n f → one ≡ old + cond (a == p) x 0 →
    two ≡ one + cond (b == p) y 0 → a ≡ s → b ≡ t → f n ≡ cond (s == p) x 0 + cond (t == p) y 0 → two ≡ sum_below (n + 1) f
class_added f n old one two a b s t p x y so_far first second start finish here =
    omega (arith, sum_below_more n f, same_test a s p x x start refl, same_test b t p y y finish refl)

-- a class without pages adds nothing
pub none_start : (k : Classes) (choice : ℕ → ℕ) (p c : ℕ) → slice_index k.count c ≡ 0 → choice c ≤ slice_index k.count c →
    starts_at k choice p c ≡ 0
none_start k choice p c none few = omega (arith, parts_few (start_of c true == p) (start_of c false == p) (choice c) (slice_index k.count c) few)

pub none_end : (k : Classes) (choice : ℕ → ℕ) (p c : ℕ) → slice_index k.count c ≡ 0 → choice c ≤ slice_index k.count c →
    ends_at k choice p c ≡ 0
none_end k choice p c none few = omega (arith, parts_few (finish_of c true == p) (finish_of c false == p) (choice c) (slice_index k.count c) few)

pub class_skipped : (f : ℕ → ℕ) (n old : ℕ) → old ≡ sum_below n f → f n ≡ 0 → old ≡ sum_below (n + 1) f
class_skipped f n old so_far none = omega (arith, sum_below_more n f)

-- the load of a slot by that of the slot before
pub record IsStep (k : Classes) (choice : ℕ → ℕ) (slot last starts ends : ℕ) : Type 0 where
  pub few : last + starts ≤ 1780000
  pub enough : ends ≤ last + starts
  pub next : last + starts - ends ≡ load k choice slot

pub load_step : (k : Classes) (choice : ℕ → ℕ) (slot last starts ends : ℕ) → IsChoice k choice → slot < 16 → 1 ≤ slot →
    last ≡ load k choice (slot - 1) → starts ≡ sum_below 136 (starts_at k choice slot) → ends ≡ sum_below 136 (ends_at k choice slot) →
    IsStep k choice slot last starts ends
load_step k choice slot last starts ends chosen h some was first second =
    let back : before slot ≡ slot - 1 = omega arith in
    let edge : load k choice slot + sum_below 136 (ends_at k choice slot)
    ≡ load k choice (slot - 1) + sum_below 136 (starts_at k choice slot) =
    subst (λ (p : ℕ). load k choice slot + sum_below 136 (ends_at k choice slot)
    ≡ load k choice p + sum_below 136 (starts_at k choice slot)) back (load_edge k choice slot h) in
    record {
      few = omega (arith, load_few k choice (slot - 1) (omega arith) chosen, starts_few k choice slot 136 (omega arith) chosen);
      enough = omega arith;
      next = omega arith;
    }
