-- The least load of a set of slots is attained class by class.
use Rattle.pocsag_slots.proofs.Prelude.{◌≡◌, ℕ, ◌+◌, ◌-◌, ◌*◌, ◌%◌, ◌<◌, ◌≤◌, ◌==◌, true, false, cond, refl, ap, ◌∙◌, arith, slice_index, inl, inr, cases_lt, nat_tests, mul-le-mul_left, Classes, Limits, covered, AreInOrder, class_load, least_of_class, load, class_rest, start_of, holds, sum_below, sum_over, min, leb, IsLeastLoad, Overloads, class_load_over}
use Rattle.pocsag_slots.proofs.CoverLemmas.{covered_split}
use Rattle.pocsag_slots.proofs.LoadLemmas.{load_few, load_none}
use Rattle.pocsag_slots.proofs.SumLemmas.{sum_over-most, sum_below-le, sum_below-same, sum_over-add, sum_over-at, sum_over-none, sum_over-same, sum_over-sum_below, sum_over-times}

covered_none : (first slot : ℕ) → covered first 0 slot ≡ 0
unfolding covered
covered_none first slot = refl

covered_one : (at slot : ℕ) → covered at 1 slot ≡ cond (at % 16 == slot) 1 0
unfolding covered
covered_one at slot = omega arith

pub members_none : (set first : ℕ) → sum_over set (covered first 0) ≡ 0
members_none set first = sum_over-same set (covered first 0) (λ slot. 0) (λ slot h. covered_none first slot) ∙ sum_over-none set

-- one codeword more stands in one slot
pub members_more : (set first n : ℕ) →
    sum_over set (covered first (n + 1)) ≡ sum_over set (covered first n) + cond (holds set ((first + n) % 16)) 1 0
members_more set first n =
    let at : ℕ = (first + n) % 16 in
    let one : sum_over set (covered (first + n) 1) ≡ cond (holds set at) 1 0 =
    sum_over-at set at (covered (first + n) 1) (omega arith)
    (covered_one (first + n) at ∙ grind (arith, nat_tests))
    (λ slot h other. covered_one (first + n) slot ∙ grind (arith, nat_tests)) in
    sum_over-same set (covered first (n + 1)) (λ slot. covered first n slot + covered (first + n) 1 slot)
    (λ slot h. covered_split first n 1 slot h)
    ∙ sum_over-add set (covered first n) (covered (first + n) 1)
    ∙ ap (λ (m : ℕ). sum_over set (covered first n) + m) one

-- how much the runs of a class load a set, by how many slots of the set a turn, an early run and a
-- late run cover
pub class_load_over_is : (k : Classes) (set c early : ℕ) → class_load_over k set c early ≡
    slice_index k.turns c * sum_over set (λ slot. 1)
    + (early * sum_over set (covered (start_of c true) (class_rest c))
    + (slice_index k.count c - early) * sum_over set (covered (start_of c false) (class_rest c)))
unfolding class_load_over class_load
class_load_over_is k set c early =
    let t : ℕ = slice_index k.turns c in
    let late : ℕ = slice_index k.count c - early in
    let a : ℕ → ℕ = covered (start_of c true) (class_rest c) in
    let b : ℕ → ℕ = covered (start_of c false) (class_rest c) in
    let turn : sum_over set (λ slot. t * 1) ≡ t * sum_over set (λ slot. 1) = sum_over-times set t (λ slot. 1) in
    let same : sum_over set (λ slot. t + early * a slot + late * b slot) ≡ sum_over set (λ slot. t * 1 + (early * a slot + late * b slot)) =
    sum_over-same set _ _ (λ slot h. omega arith) in
    let split : sum_over set (λ slot. t * 1 + (early * a slot + late * b slot))
    ≡ sum_over set (λ slot. t * 1) + sum_over set (λ slot. early * a slot + late * b slot) =
    sum_over-add set (λ slot. t * 1) (λ slot. early * a slot + late * b slot) in
    let runs : sum_over set (λ slot. early * a slot + late * b slot)
    ≡ sum_over set (λ slot. early * a slot) + sum_over set (λ slot. late * b slot) =
    sum_over-add set (λ slot. early * a slot) (λ slot. late * b slot) in
    let by_early : sum_over set (λ slot. early * a slot) ≡ early * sum_over set a = sum_over-times set early a in
    let by_late : sum_over set (λ slot. late * b slot) ≡ late * sum_over set b = sum_over-times set late b in
    omega arith

-- between the ends of the limits no choice loads less than the smaller end: the load is linear
linear : (n a b e d : ℕ) → e + d ≤ n → a ≤ b → (e + d) * a + (n - (e + d)) * b ≤ e * a + (n - e) * b
linear n a b e d h le =
    let left : n - e ≡ n - (e + d) + d = omega arith in
    let m : ℕ = n - (e + d) in
    let more : d * a ≤ d * b = mul-le-mul_left d le in
    rw left (omega arith)

linear_down : (n a b e d : ℕ) → e + d ≤ n → b ≤ a → e * a + (n - e) * b ≤ (e + d) * a + (n - (e + d)) * b
linear_down n a b e d h le =
    let left : n - e ≡ n - (e + d) + d = omega arith in
    let m : ℕ = n - (e + d) in
    let more : d * b ≤ d * a = mul-le-mul_left d le in
    rw left (omega arith)

between : (n a b lo e hi : ℕ) → lo ≤ e → e ≤ hi → hi ≤ n →
    min (lo * a + (n - lo) * b) (hi * a + (n - hi) * b) ≤ e * a + (n - e) * b
between n a b lo e hi l h m =
    elim (cases_lt b a) [
      | inl down ↦
          let same : e ≡ lo + (e - lo) = omega arith in
          let step : lo * a + (n - lo) * b ≤ e * a + (n - e) * b =
          rw (← same) at (linear_down n a b lo (e - lo) (omega arith) (omega arith)) in
          omega arith
      | inr up ↦
          let same : hi ≡ e + (hi - e) = omega arith in
          let step : hi * a + (n - hi) * b ≤ e * a + (n - e) * b = rw (← same) at (linear n a b e (hi - e) (omega arith) up) in
          omega arith
    ]

-- the smaller end is the least load of a class, and the classes are added
least_below : (k : Classes) (l : Limits) (set c e : ℕ) → slice_index l.lo c ≤ e → e ≤ slice_index l.hi c →
    slice_index l.hi c ≤ slice_index k.count c → least_of_class k l set c ≤ class_load_over k set c e
unfolding least_of_class
least_below k l set c e low high counted =
    let a : ℕ = sum_over set (covered (start_of c true) (class_rest c)) in
    let b : ℕ = sum_over set (covered (start_of c false) (class_rest c)) in
    let t : ℕ = slice_index k.turns c * sum_over set (λ slot. 1) in
    let least = between (slice_index k.count c) a b (slice_index l.lo c) e (slice_index l.hi c) low high counted in
    let at_lo = class_load_over_is k set c (slice_index l.lo c) in
    let at_hi = class_load_over_is k set c (slice_index l.hi c) in
    let here = class_load_over_is k set c e in
    omega arith

-- the early count at which the class loads the set least
cheapest : Classes → Limits → ℕ → ℕ → ℕ
cheapest k l set c =
    cond (leb (class_load_over k set c (slice_index l.lo c)) (class_load_over k set c (slice_index l.hi c)))
    (slice_index l.lo c) (slice_index l.hi c)

cheapest_is : (k : Classes) (l : Limits) (set c : ℕ) → class_load_over k set c (cheapest k l set c) ≡ least_of_class k l set c
unfolding cheapest least_of_class
cheapest_is k l set c =
    elim (cases_lt (class_load_over k set c (slice_index l.hi c)) (class_load_over k set c (slice_index l.lo c))) [
      | inl high ↦ grind (arith, nat_tests)
      | inr low ↦ grind (arith, nat_tests)
    ]

cheapest_low : (k : Classes) (l : Limits) (set c : ℕ) → slice_index l.lo c ≤ slice_index l.hi c →
    (slice_index l.lo c ≤ cheapest k l set c) × (cheapest k l set c ≤ slice_index l.hi c)
unfolding cheapest
cheapest_low k l set c h = grind (arith, nat_tests)

pub load_over : (k : Classes) (set : ℕ) (choice : ℕ → ℕ) →
    sum_over set (load k choice) ≡ sum_below 136 (λ c. class_load_over k set c (choice c))
unfolding load class_load_over
load_over k set choice = sum_over-sum_below set 136 (λ slot c. class_load k slot c (choice c))

pub least_is : (k : Classes) (l : Limits) (set : ℕ) → AreInOrder k l → IsLeastLoad k l set (sum_below 136 (least_of_class k l set))
least_is k l set ordered =
    record {
      lower = λ choice within.
          let each : sum_below 136 (least_of_class k l set) ≤ sum_below 136 (λ c. class_load_over k set c (choice c)) =
          sum_below-le 136 _ _ (λ c h. least_below k l set c (choice c) (within.least c h) (within.most c h) (ordered.counted c h)) in
          omega (arith, load_over k set choice);
      met = (
        cheapest k l set,
        record {
          least =
              λ c h. (cheapest_low k l set c (ordered.order c h)).0;
          most = λ c h. (cheapest_low k l set c (ordered.order c h)).1;
        },
        load_over k set (cheapest k l set)
            ∙ sum_below-same 136 _ (least_of_class k l set) (λ c h. cheapest_is k l set c),
      );
    }

-- a set is overloaded where its least load exceeds its caps
pub overload_is : (k : Classes) (l : Limits) (set least : ℕ) → IsLeastLoad k l set least →
    (sum_over set (slice_index l.cap) < least → Overloads k l set) × (Overloads k l set → sum_over set (slice_index l.cap) < least)
overload_is k l set least is_least = (
  (λ more choice within. omega (arith, is_least.lower choice within)),
  (λ all. omega (arith, all is_least.met.0 is_least.met.1, is_least.met.2)),
)

pub least_of_class_is : (k : Classes) (l : Limits) (set c : ℕ) → least_of_class k l set c ≡
    slice_index k.turns c * sum_over set (λ slot. 1)
    + min (slice_index l.lo c * sum_over set (covered (start_of c true) (class_rest c))
    + (slice_index k.count c - slice_index l.lo c) * sum_over set (covered (start_of c false) (class_rest c)))
    (slice_index l.hi c * sum_over set (covered (start_of c true) (class_rest c))
    + (slice_index k.count c - slice_index l.hi c) * sum_over set (covered (start_of c false) (class_rest c)))
unfolding least_of_class
least_of_class_is k l set c =
    let at_lo = class_load_over_is k set c (slice_index l.lo c) in
    let at_hi = class_load_over_is k set c (slice_index l.hi c) in
    omega arith

-- a class without pages loads no set
over_none : (k : Classes) (set c early : ℕ) → c < 136 → early ≤ slice_index k.count c → slice_index k.count c ≡ 0 →
    class_load_over k set c early ≡ 0
unfolding class_load_over
over_none k set c early h some none =
    sum_over-same set (λ slot. class_load k slot c early) (λ slot. 0) (λ slot s. load_none k slot c early s h some none) ∙ sum_over-none set

pub least_none : (k : Classes) (l : Limits) (set c : ℕ) → c < 136 → AreInOrder k l → slice_index k.count c ≡ 0 →
    least_of_class k l set c ≡ 0
unfolding least_of_class
least_none k l set c h ordered none =
    omega (arith, over_none k set c (slice_index l.lo c) h (omega (arith, ordered.order c h, ordered.counted c h)) none)

pub least_few : (k : Classes) (l : Limits) (set least : ℕ) → AreInOrder k l → IsLeastLoad k l set least → least ≤ 28160000
least_few k l set least ordered is_least =
    let choice : ℕ → ℕ = is_least.met.0 in
    let among : (c : ℕ) → c < 136 → choice c ≤ slice_index k.count c =
    λ c h. omega (arith, is_least.met.1.most c h, ordered.counted c h) in
    let most : sum_over set (load k choice) ≤ 16 * 1760000 =
    sum_over-most set 1760000 (load k choice) (λ slot h. load_few k choice slot h among) in
    omega (arith, is_least.met.2)
