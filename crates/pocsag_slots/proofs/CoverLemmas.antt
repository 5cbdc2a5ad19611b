-- How often codewords in a row cover a slot, and where the runs of a class start and end.
use Rattle.pocsag_slots.proofs.Prelude.{◌≡◌, ℕ, zero, suc, ◌+◌, ◌-◌, ◌*◌, ◌/◌, ◌%◌, ◌<◌, ◌==◌, Bool, true, false, cond, arith, nat_tests, End, frame_at, covered, class_of, class_frame, class_rest, start_of, finish_of}
use Rattle.pocsag_words.specs.declared.ending.End.TheVariants as ends

-- one codeword more raises the whole turns exactly in its own slot
cover_step : (i slot : ℕ) → slot < 16 → cond (i % 16 == slot) 1 0 + (i + 15 - slot) / 16 ≡ (i + 1 + 15 - slot) / 16
cover_step i slot h = grind (arith, nat_tests)

pub covered_is : (i n slot : ℕ) → slot < 16 → covered i n slot + (i + 15 - slot) / 16 ≡ (i + n + 15 - slot) / 16
unfolding covered
covered_is i zero slot h = omega arith
covered_is i (suc n) slot h =
    let rest : covered (i + 1) n slot + (i + 1 + 15 - slot) / 16 ≡ (i + 1 + n + 15 - slot) / 16 = covered_is (i + 1) n slot h in
    let first : cond (i % 16 == slot) 1 0 + (i + 15 - slot) / 16 ≡ (i + 1 + 15 - slot) / 16 = cover_step i slot h in
    omega arith

pub covered_split : (i n m slot : ℕ) → slot < 16 → covered i (n + m) slot ≡ covered i n slot + covered (i + n) m slot
covered_split i n m slot h =
    omega (arith, covered_is i (n + m) slot h, covered_is i n slot h, covered_is (i + n) m slot h)

pub covered_turns : (i n slot : ℕ) → slot < 16 → covered i n slot ≡ n / 16 + covered (i % 16) (n % 16) slot
covered_turns i n slot h = omega (arith, covered_is i n slot h, covered_is (i % 16) (n % 16) slot h)

pub covered_batches : (b slot : ℕ) → slot < 16 → covered 0 (16 * b) slot ≡ b
covered_batches b slot h = omega (arith, covered_is 0 (16 * b) slot h)

pub class_below : (end : End) (frame n : ℕ) → frame < 8 → class_of end frame n < 136
unfolding class_of
class_below ends.Open frame n h = omega arith
class_below ends.Closed frame n h = grind (arith, nat_tests)
class_below ends.Idle frame n h = omega arith

pub class_frame_is : (end : End) (frame n : ℕ) → frame < 8 → class_frame (class_of end frame n) ≡ frame
unfolding class_of class_frame
class_frame_is ends.Open frame n h = grind (arith, nat_tests)
class_frame_is ends.Closed frame n h = grind (arith, nat_tests)
class_frame_is ends.Idle frame n h = grind (arith, nat_tests)

pub class_rest_is : (end : End) (frame n : ℕ) → frame < 8 → class_rest (class_of end frame n) ≡ n % 16
unfolding class_of class_rest
class_rest_is ends.Open frame n h = grind (arith, nat_tests)
class_rest_is ends.Closed frame n h = grind (arith, nat_tests)
class_rest_is ends.Idle frame n h = grind (arith, nat_tests)

pub start_is : (end : End) (i n : ℕ) → start_of (class_of end (frame_at i) n) (i % 2 == 0) ≡ i % 16
unfolding start_of
start_is end i n =
    let small : i % 16 / 2 < 8 = omega arith in
    let frame : class_frame (class_of end (i % 16 / 2) n) ≡ i % 16 / 2 = class_frame_is end (i % 16 / 2) n small in
    grind (arith, nat_tests)

pub finish_is : (end : End) (i n : ℕ) → finish_of (class_of end (frame_at i) n) (i % 2 == 0) ≡ (i + n) % 16
unfolding finish_of
finish_is end i n =
    let small : i % 16 / 2 < 8 = omega arith in
    omega (arith, start_is end i n, class_rest_is end (i % 16 / 2) n small)

pub start_below : (c : ℕ) (e : Bool) → c < 136 → start_of c e < 16
unfolding start_of class_frame
start_below c true h = grind (arith, nat_tests)
start_below c false h = grind (arith, nat_tests)

pub finish_below : (c : ℕ) (e : Bool) → finish_of c e < 16
unfolding finish_of
finish_below c e = omega arith
