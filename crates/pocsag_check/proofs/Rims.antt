-- A set that holds boundary 0, and not all boundaries, is crossed by the idles of at least two slots.
use Rattle.pocsag_check.proofs.Prelude.{◌≡◌, ◌⊎◌, ℕ, zero, suc, ◌+◌, ◌-◌, ◌%◌, ◌<◌, ◌≤◌, ◌||◌, Bool, true, false, not, IsTrue, List, length, refl, arith, inl, inr, length-append, cases_eq, Classes, Limits, start_of, finish_of, holds, joined_below, class_certain, idle_crosses, run_touches, slot_ways, ways_across, not-false, not-true, not_from_false, finish_below, start_below}
use Rattle.pocsag_check.proofs.Crossings.{idle_leaves}
use Rattle.pocsag_check.proofs.Refuted.{certain_is}

-- a test that is false at n and true at m turns true in between
pub record TurnsTrue (f : ℕ → Bool) (n m : ℕ) : Type 0 where
  pub at : ℕ
  pub from : n ≤ at
  pub below : at < m
  pub before : f at ≡ false
  pub after : f (at + 1) ≡ true

turns_next : (f : ℕ → Bool) (n m : ℕ) → n < m → f n ≡ false → (f (n + 1) ≡ false → TurnsTrue f (n + 1) m) → (b : Bool) → f (n + 1) ≡ b →
    TurnsTrue f n m
turns_next f n m h low later true is = record { at = n; from = omega arith; below = h; before = low; after = is }
turns_next f n m h low later false is =
    let rest = later is in
    record { at = rest.at; from = omega (arith, rest.from); below = rest.below; before = rest.before; after = rest.after }

turns : (f : ℕ → Bool) (n d m : ℕ) → n + d ≡ m → f n ≡ false → f m ≡ true → TurnsTrue f n m
turns f n zero m e low high = absurd (let same : n ≡ m = omega arith in let here : f m ≡ false = rw same at low in cc)
turns f n (suc d) m e low high = turns_next f n m (omega arith) low (λ is. turns f (n + 1) d m (omega arith) is high) (f (n + 1)) refl

-- some boundary is not held
pub record IsOut (set : ℕ) : Type 0 where
  pub boundary : ℕ
  pub known : boundary < 16
  pub out : holds set boundary ≡ false

one_out : (a b : Bool) → (not a || not b) ≡ true → (a ≡ false) ⊎ (b ≡ false)
one_out false b h = inl refl
one_out true false h = inr refl
one_out true true h = absurd (cc)

touched : (set c : ℕ) (e : Bool) → c < 136 → run_touches c e set ≡ true → IsOut set
unfolding run_touches
touched set c e h touches =
    elim (one_out (holds set (start_of c e)) (holds set (finish_of c e)) touches) [
      | inl out ↦ record { boundary = start_of c e; known = start_below c e h; out = out }
      | inr out ↦ record { boundary = finish_of c e; known = finish_below c e; out = out }
    ]

certain_out : (k : Classes) (l : Limits) (set c : ℕ) → c < 136 → IsTrue (class_certain k l set c) → IsOut set
certain_out k l set c h certain = grind (arith, certain_is, touched)

crossed_in : (set slot : ℕ) → holds set slot ≡ false → holds set ((slot + 1) % 16) ≡ true → idle_crosses slot set ≡ true
unfolding idle_crosses
crossed_in set slot here there = rw (here, there) refl

one_way : (set slot : ℕ) → idle_crosses slot set ≡ true → 1 ≤ length (slot_ways set slot)
unfolding slot_ways
one_way set slot crosses = rw crosses (omega arith)

one_joined : {X : Type 0} (n i : ℕ) (f : ℕ → List X) → i < n → 1 ≤ length (f i) → 1 ≤ length (joined_below n f)
unfolding joined_below
one_joined zero i f h some = absurd (omega arith)
one_joined (suc n) i f h some =
    rw length-append
    (elim (cases_eq i n) [
      | inl same ↦ let here : 1 ≤ length (f n) = rw same at some in omega arith
      | inr other ↦ omega (arith, one_joined n i f (omega arith) some)
    ])

two_joined : {X : Type 0} (n i j : ℕ) (f : ℕ → List X) → i < j → j < n → 1 ≤ length (f i) → 1 ≤ length (f j) → 2 ≤ length (joined_below n f)
unfolding joined_below
two_joined zero i j f h l first second = absurd (omega arith)
two_joined (suc n) i j f h l first second =
    rw length-append
    (elim (cases_eq j n) [
      | inl same ↦
          let here : 1 ≤ length (f n) = rw same at second in
          omega (arith, one_joined n i f (omega arith) first)
      | inr other ↦ omega (arith, two_joined n i j f h (omega arith) first second)
    ])

two_slots : (set : ℕ) → holds set 0 ≡ true → IsOut set → 2 ≤ length (joined_below 16 (slot_ways set))
two_slots set home out =
    let q = out.boundary in
    let around : ℕ → Bool = λ (p : ℕ). holds set (p % 16) in
    let leaves : TurnsTrue (λ (p : ℕ). not (holds set p)) 0 q =
    turns (λ (p : ℕ). not (holds set p)) 0 q q (omega arith) (rw home refl) (not_from_false (holds set q) out.out) in
    let small : q % 16 ≡ q = omega (arith, out.known) in
    let back : TurnsTrue around q 16 =
    turns around q (16 - q) 16 (omega (arith, out.known)) (rw small out.out) home in
    let i = leaves.at in
    let j = back.at in
    let i_next : i + 1 ≡ (i + 1) % 16 = omega (arith, leaves.below, out.known) in
    let j_here : j % 16 ≡ j = omega (arith, back.below) in
    let first : idle_crosses i set ≡ true =
    idle_leaves set i (not-false (holds set i) leaves.before)
    (rw i_next at (not-true (holds set (i + 1)) leaves.after)) in
    let second : idle_crosses j set ≡ true =
    crossed_in set j (rw j_here at back.before) back.after in
    two_joined 16 i j (slot_ways set) (omega (arith, leaves.below, back.from)) back.below (one_way set i first) (one_way set j second)

pub two_ways : (k : Classes) (l : Limits) (set c : ℕ) → c < 136 → IsTrue (holds set 0) → IsTrue (class_certain k l set c) →
    2 ≤ length (ways_across k l set)
unfolding ways_across
two_ways k l set c h home certain = rw length-append (omega (arith, two_slots set home (certain_out k l set c h certain)))
