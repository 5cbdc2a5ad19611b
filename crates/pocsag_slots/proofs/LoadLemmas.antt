-- Loads of slots by the runs of a class, and their bounds.
use Rattle.pocsag_slots.proofs.Prelude.{◌≡◌, ℕ, ◌+◌, ◌-◌, ◌*◌, ◌%◌, ◌<◌, ◌≤◌, true, false, cond, arith, slice_index, nat_tests, mul-le-mul_left, Classes, covered, IsChoice, class_load, load, class_rest, start_of, sum_below, ltb}
use Rattle.pocsag_slots.proofs.CoverLemmas.{covered_is}
use Rattle.pocsag_slots.proofs.SumLemmas.{sum_below-le, sum_below-part, sum_below-times, term-le-sum_below}

-- at most one turn covers a slot once, and it does where the slot is not far
pub covered_once : (first n slot : ℕ) → slot < 16 → n ≤ 16 → covered first n slot ≤ 1
covered_once first n slot h few = omega (arith, covered_is first n slot h)

pub covered_by : (first n slot : ℕ) → first < 16 → n ≤ 16 → slot < 16 → covered first n slot ≡ cond (ltb ((slot + 16 - first) % 16) n) 1 0
covered_by first n slot h few l =
    let closed = covered_is first n slot l in
    grind (arith, nat_tests)

pub rest_below : (c : ℕ) → class_rest c < 16
unfolding class_rest
rest_below c = grind (arith, nat_tests)

pub count_few : (k : Classes) (c : ℕ) → c < 136 → slice_index k.count c ≤ 20000
count_few k c h = omega (arith, term-le-sum_below 136 c (slice_index k.count) h, k.tables.few)

pub class_load_most : (k : Classes) (slot c early : ℕ) → slot < 16 → c < 136 → early ≤ slice_index k.count c →
    class_load k slot c early ≤ 88 * slice_index k.count c
unfolding class_load
class_load_most k slot c early h l some =
    let e : early * covered (start_of c true) (class_rest c) slot ≤ early * 1 =
    mul-le-mul_left early (covered_once (start_of c true) (class_rest c) slot h (omega (arith, rest_below c))) in
    let o : (slice_index k.count c - early) * covered (start_of c false) (class_rest c) slot ≤ (slice_index k.count c - early) * 1 =
    mul-le-mul_left (slice_index k.count c - early) (covered_once (start_of c false) (class_rest c) slot h (omega (arith, rest_below c))) in
    omega (arith, k.tables.short c l)

-- a class without pages loads nothing
pub load_none : (k : Classes) (slot c early : ℕ) → slot < 16 → c < 136 → early ≤ slice_index k.count c → slice_index k.count c ≡ 0 →
    class_load k slot c early ≡ 0
load_none k slot c early h l some none = omega (arith, class_load_most k slot c early h l some)

-- the load by the classes so far
pub loads_few : (k : Classes) (choice : ℕ → ℕ) (slot n : ℕ) → slot < 16 → n ≤ 136 → IsChoice k choice →
    sum_below n (λ c. class_load k slot c (choice c)) ≤ 1760000
loads_few k choice slot n h l among =
    let each : sum_below n (λ c. class_load k slot c (choice c)) ≤ sum_below n (λ c. 88 * slice_index k.count c) =
    sum_below-le n _ _ (λ c m. class_load_most k slot c (choice c) h (omega arith) (among c (omega arith))) in
    omega (arith, each, sum_below-times n 88 (slice_index k.count), sum_below-part n 136 (slice_index k.count) l, k.tables.few)

pub load_few : (k : Classes) (choice : ℕ → ℕ) (slot : ℕ) → slot < 16 → IsChoice k choice → load k choice slot ≤ 1760000
unfolding load
load_few k choice slot h among = loads_few k choice slot 136 h (omega arith) among
