-- Lists of ways: how they grow, how long they are, and that their ways may be taken.
use Rattle.pocsag_slots.proofs.Prelude.{◌≡◌, ℕ, zero, suc, ◌+◌, ◌*◌, ◌<◌, ◌≤◌, ◌&&◌, Bool, true, false, cond, List, [], ◌∷◌, ◌++◌, All, length, refl, arith, add-one, length-append, slice_index, nat_tests, All-cons, All-nil, Classes, Limits, joined_below, class_ways, slot_ways, ways_across, nat_lt, append_assoc, All-append, and_parts, MayTake, early_open, idle_crosses, late_open, run_crosses}
use Rattle.pocsag_slots.specs.declared.way.Way.{Way}
use Rattle.pocsag_slots.specs.declared.way.Way.TheVariants.{IdleIn, Early, Late}

pub joined_none : {X : Type 0} (f : ℕ → List X) → joined_below 0 f ≡ []
unfolding joined_below
joined_none f = refl

pub joined_more : {X : Type 0} (n : ℕ) (f : ℕ → List X) → joined_below (n + 1) f ≡ joined_below n f ++ f n
unfolding joined_below
joined_more n f = rw add-one refl

pub length-joined_below : {X : Type 0} (n m : ℕ) (f : ℕ → List X) → ((k : ℕ) → length (f k) ≤ m) → length (joined_below n f) ≤ n * m
unfolding joined_below
length-joined_below zero m f h = omega arith
length-joined_below (suc n) m f h = rw length-append (omega (arith, length-joined_below n m f h, h n))

pub All-joined_below : {X : Type 0} (P : X → Type 0) (n : ℕ) (f : ℕ → List X) → ((k : ℕ) → k < n → All P (f k)) → All P (joined_below n f)
unfolding joined_below
All-joined_below P zero f h = All-nil P
All-joined_below P (suc n) f h =
    All-append P (joined_below n f) (f n) (All-joined_below P n f (λ k l. h k (omega arith))) (h n (omega arith))

pub one_or_none : {X : Type 0} (b : Bool) (x : X) → length (cond b (x ∷ []) []) ≤ 1
one_or_none true x = omega arith
one_or_none false x = omega arith

pub All-one_or_none : {X : Type 0} (P : X → Type 0) (b : Bool) (x : X) → (b ≡ true → P x) → All P (cond b (x ∷ []) [])
All-one_or_none P true x h = All-cons P x [] (h refl) (All-nil P)
All-one_or_none P false x h = All-nil P

pub slot_ways_few : (set slot : ℕ) → length (slot_ways set slot) ≤ 1
unfolding slot_ways
slot_ways_few set slot = one_or_none (idle_crosses slot set) (IdleIn slot)

pub class_ways_few : (k : Classes) (l : Limits) (set c : ℕ) → length (class_ways k l set c) ≤ 2
unfolding class_ways
class_ways_few k l set c =
    rw length-append
    (omega (arith, one_or_none (early_open k l set c) (Early c), one_or_none (late_open k l set c) (Late c)))

less : (a b : ℕ) → nat_lt a b ≡ true → a < b
less a b h = grind (arith, nat_tests)

early_allowed : (k : Classes) (l : Limits) (set c : ℕ) → early_open k l set c ≡ true → 0 < slice_index l.hi c
unfolding early_open
early_allowed k l set c h =
    less 0 (slice_index l.hi c)
    ((and_parts (run_crosses c true set && nat_lt 0 (slice_index k.count c)) (nat_lt 0 (slice_index l.hi c)) h).1)

late_allowed : (k : Classes) (l : Limits) (set c : ℕ) → late_open k l set c ≡ true → slice_index l.lo c < slice_index k.count c
unfolding late_open
late_allowed k l set c h =
    less (slice_index l.lo c) (slice_index k.count c)
    ((and_parts (run_crosses c false set) (nat_lt (slice_index l.lo c) (slice_index k.count c)) h).1)

slot_ways_allowed : (k : Classes) (l : Limits) (set slot : ℕ) → slot < 16 → All (MayTake k l) (slot_ways set slot)
unfolding slot_ways
slot_ways_allowed k l set slot h = All-one_or_none (MayTake k l) (idle_crosses slot set) (IdleIn slot) (λ e. h)

class_ways_allowed : (k : Classes) (l : Limits) (set c : ℕ) → c < 136 → All (MayTake k l) (class_ways k l set c)
unfolding class_ways
class_ways_allowed k l set c h =
    All-append (MayTake k l) _ _
    (All-one_or_none (MayTake k l) (early_open k l set c) (Early c) (λ e. (h, early_allowed k l set c e)))
    (All-one_or_none (MayTake k l) (late_open k l set c) (Late c) (λ e. (h, late_allowed k l set c e)))

pub ways_allowed : (k : Classes) (l : Limits) (set : ℕ) → All (MayTake k l) (ways_across k l set)
unfolding ways_across
ways_allowed k l set =
    All-append (MayTake k l) (joined_below 16 (slot_ways set)) (joined_below 136 (class_ways k l set))
    (All-joined_below (MayTake k l) 16 (slot_ways set) (slot_ways_allowed k l set))
    (All-joined_below (MayTake k l) 136 (class_ways k l set) (class_ways_allowed k l set))

-- the room that is left
pub slots_few : (set n : ℕ) (found : List Way) → found ≡ joined_below n (slot_ways set) → length found ≤ n
slots_few set n found e =
    rw e (omega (arith, length-joined_below n 1 (slot_ways set) (slot_ways_few set)))

pub classes_few : (k : Classes) (l : Limits) (set n : ℕ) (found : List Way) →
    found ≡ joined_below 16 (slot_ways set) ++ joined_below n (class_ways k l set) → length found ≤ 16 + 2 * n
classes_few k l set n found e =
    rw (e, length-append)
    (omega (
      arith,
      length-joined_below 16 1 (slot_ways set) (slot_ways_few set),
      length-joined_below n 2 (class_ways k l set) (class_ways_few k l set),
    ))

-- one slot, and one class, more
pub slot_added : (set n : ℕ) (b : Bool) (found next : List Way) → b ≡ idle_crosses n set → found ≡ joined_below n (slot_ways set) →
    next ≡ found ++ cond b (IdleIn n ∷ []) [] → next ≡ joined_below (n + 1) (slot_ways set)
unfolding slot_ways
slot_added set n b found next crossing so_far added = rw (added, so_far, crossing, joined_more) refl

pub class_added : (k : Classes) (l : Limits) (set n : ℕ) (early late : Bool) (found next last : List Way) →
    early ≡ early_open k l set n → late ≡ late_open k l set n →
    found ≡ joined_below 16 (slot_ways set) ++ joined_below n (class_ways k l set) →
    next ≡ found ++ cond early (Early n ∷ []) [] → last ≡ next ++ cond late (Late n ∷ []) [] →
    last ≡ joined_below 16 (slot_ways set) ++ joined_below (n + 1) (class_ways k l set)
unfolding class_ways
class_added k l set n early late found next last e f so_far first second =
    rw (second, first, so_far, e, f, joined_more) (simp append_assoc)

-- the room after an early run
pub early_few : (k : Classes) (l : Limits) (set n : ℕ) (early : Bool) (found next : List Way) →
    found ≡ joined_below 16 (slot_ways set) ++ joined_below n (class_ways k l set) →
    next ≡ found ++ cond early (Early n ∷ []) [] → length next ≤ 17 + 2 * n
early_few k l set n early found next so_far added =
    rw (added, length-append) (omega (arith, classes_few k l set n found so_far, one_or_none early (Early n)))
