-- A run that starts late in place of early takes load from the slot where it started and gives it to
-- the slot where it ended.
use Rattle.pocsag_flow.proofs.Prelude.{◌≡◌, ◌≢◌, ℕ, ◌+◌, ◌-◌, ◌*◌, ◌%◌, ◌<◌, ◌≤◌, cond, true, false, ap, arith, slice_index, nat_tests, Classes, class_load, class_load_over, load, class_frame, class_rest, finish_of, start_of, holds, sum_over, class_load_over_is, members_more, members_none, sum_over-add, sum_over-same, same_slot}
use Rattle.pocsag_slots.specs.Cover.{covered}
use Rattle.pocsag_slots.proofs.CoverLemmas.{covered_split}
use Rattle.pocsag_flow.proofs.FlowSums.{sum_below-change}

-- 1 where the set has the slot, else 0
unfoldable pub in_set : ℕ → ℕ → ℕ
in_set set slot = cond (holds set slot) 1 0

covered_one : (at slot : ℕ) → covered at 1 slot ≡ same_slot (at % 16) slot
unfolding covered same_slot
covered_one at slot = omega arith

covered_shift : (i n slot : ℕ) → slot < 16 →
    covered i n slot + same_slot ((i + n) % 16) slot ≡ covered (i + 1) n slot + same_slot (i % 16) slot
covered_shift i n slot h =
    let last : covered i (n + 1) slot ≡ covered i n slot + covered (i + n) 1 slot = covered_split i n 1 slot h in
    let first : covered i (1 + n) slot ≡ covered i 1 slot + covered (i + 1) n slot = covered_split i 1 n slot h in
    let order : n + 1 ≡ 1 + n = omega arith in
    let same : covered i (n + 1) slot ≡ covered i (1 + n) slot = ap (λ (m : ℕ). covered i m slot) order in
    omega (arith, covered_one i slot, covered_one (i + n) slot)

members_first : (set i n : ℕ) → sum_over set (covered i (1 + n)) ≡ in_set set (i % 16) + sum_over set (covered (i + 1) n)
unfolding in_set
members_first set i n =
    let some : sum_over set (covered i (0 + 1)) ≡ sum_over set (covered i 0) + cond (holds set ((i + 0) % 16)) 1 0 = members_more set i 0 in
    let none : sum_over set (covered i 0) ≡ 0 = members_none set i in
    let place : i + 0 ≡ i = omega arith in
    let here : cond (holds set ((i + 0) % 16)) 1 0 ≡ in_set set (i % 16) = ap (λ (m : ℕ). cond (holds set (m % 16)) 1 0) place in
    let split : sum_over set (covered i (1 + n)) ≡ sum_over set (λ slot. covered i 1 slot + covered (i + 1) n slot) =
    sum_over-same set _ _ (λ slot h. covered_split i 1 n slot h) in
    let added : sum_over set (λ slot. covered i 1 slot + covered (i + 1) n slot) ≡
    sum_over set (covered i 1) + sum_over set (covered (i + 1) n) =
    sum_over-add set (covered i 1) (covered (i + 1) n) in
    omega arith

members_shift : (set i n : ℕ) →
    sum_over set (covered i n) + in_set set ((i + n) % 16) ≡ sum_over set (covered (i + 1) n) + in_set set (i % 16)
unfolding in_set
members_shift set i n =
    let last : sum_over set (covered i (n + 1)) ≡ sum_over set (covered i n) + in_set set ((i + n) % 16) = members_more set i n in
    let first : sum_over set (covered i (1 + n)) ≡ in_set set (i % 16) + sum_over set (covered (i + 1) n) = members_first set i n in
    let order : n + 1 ≡ 1 + n = omega arith in
    let same : sum_over set (covered i (n + 1)) ≡ sum_over set (covered i (1 + n)) = ap (λ (m : ℕ). sum_over set (covered i m)) order in
    omega arith

pub start_low : (c : ℕ) → c < 136 → start_of c true < 16
unfolding start_of class_frame
start_low c h = grind (arith, nat_tests)

pub finish_low : (c : ℕ) → finish_of c true < 16
unfolding finish_of
finish_low c = omega arith

late_is : (c : ℕ) → start_of c false ≡ start_of c true + 1
unfolding start_of
late_is c = omega arith

run_shift : (c slot : ℕ) → c < 136 → slot < 16 → covered (start_of c true) (class_rest c) slot + same_slot (finish_of c true) slot
    ≡ covered (start_of c false) (class_rest c) slot + same_slot (start_of c true) slot
unfolding finish_of
run_shift c slot h l =
    let shift = covered_shift (start_of c true) (class_rest c) slot l in
    let low : start_of c true % 16 ≡ start_of c true = omega (arith, start_low c h) in
    rw (late_is c) (rw low at shift)

run_members : (set c : ℕ) → c < 136 → sum_over set (covered (start_of c true) (class_rest c)) + in_set set (finish_of c true)
    ≡ sum_over set (covered (start_of c false) (class_rest c)) + in_set set (start_of c true)
unfolding finish_of
run_members set c h = grind (arith, members_shift, start_low, late_is)

-- k runs more of those that cover A, and as many fewer of those that cover B
exchanged : (turns e k late a b x y : ℕ) → a + x ≡ b + y →
    turns + e * a + (late + k) * b + k * y ≡ turns + (e + k) * a + late * b + k * x
exchanged turns e k late a b x y h = omega (arith, ap (λ (n : ℕ). k * n) h)

pub class_load_shift : (K : Classes) (slot c e k : ℕ) → c < 136 → slot < 16 → e + k ≤ slice_index K.count c →
    class_load K slot c e + k * same_slot (start_of c true) slot ≡ class_load K slot c (e + k) + k * same_slot (finish_of c true) slot
unfolding class_load
class_load_shift K slot c e k h l few =
    let late : slice_index K.count c - e ≡ slice_index K.count c - (e + k) + k = omega arith in
    rw late (exchanged (slice_index K.turns c) e k (slice_index K.count c - (e + k))
    (covered (start_of c true) (class_rest c) slot) (covered (start_of c false) (class_rest c) slot)
    (same_slot (finish_of c true) slot) (same_slot (start_of c true) slot) (run_shift c slot h l))

pub class_load_over_shift : (K : Classes) (set c e k : ℕ) → c < 136 → e + k ≤ slice_index K.count c →
    class_load_over K set c e + k * in_set set (start_of c true) ≡ class_load_over K set c (e + k) + k * in_set set (finish_of c true)
class_load_over_shift K set c e k h few =
    let late : slice_index K.count c - e ≡ slice_index K.count c - (e + k) + k = omega arith in
    let whole : ℕ = slice_index K.turns c * sum_over set (covered 0 16) in
    let a : ℕ = sum_over set (covered (start_of c true) (class_rest c)) in
    let b : ℕ = sum_over set (covered (start_of c false) (class_rest c)) in
    let moved = exchanged whole e k (slice_index K.count c - (e + k)) a b
    (in_set set (finish_of c true)) (in_set set (start_of c true)) (run_members set c h) in
    let here = rw late at (class_load_over_is K set c e) in
    omega (arith, class_load_over_is K set c (e + k))

-- `after` has k early runs of the class fewer than `before`
pub record Moves (before after : ℕ → ℕ) (class k : ℕ) : Type 0 where
  pub here : after class + k ≡ before class
  pub others : (c : ℕ) → c < 136 → c ≢ class → after c ≡ before c

pub load_moved : (K : Classes) (before after : ℕ → ℕ) (class k slot : ℕ) → class < 136 → slot < 16 →
    before class ≤ slice_index K.count class → Moves before after class k →
    load K after slot + k * same_slot (start_of class true) slot ≡ load K before slot + k * same_slot (finish_of class true) slot
unfolding load
load_moved K before after class k slot h l few moves =
    let here : class_load K slot class (after class) + k * same_slot (start_of class true) slot
    ≡ class_load K slot class (after class + k) + k * same_slot (finish_of class true) slot =
    class_load_shift K slot class (after class) k h l (omega (arith, moves.here)) in
    sum_below-change 136 class _ _ _ _ h (rw moves.here at here)
    (λ c m other. ap (λ (e : ℕ). class_load K slot c e) (moves.others c m other))
