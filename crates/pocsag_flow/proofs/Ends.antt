-- Where nothing leads out of a set of full slots, no choice within the limits loads it less; and what
-- a way takes from the overload.
use Rattle.pocsag_flow.proofs.Prelude.{◌≡◌, ◌≢◌, ℕ, ◌+◌, ◌-◌, ◌*◌, ◌<◌, ◌≤◌, Bool, cond, true, false, refl, sym, arith, inl, inr, slice_index, cases_eq, cases_lt, Classes, Limits, AreInOrder, ClassLoadsAddUp, IsWithin, Overloads, class_load_over, load, finish_of, start_of, holds, sum_over, sum_below-le, Network, Progress, overload, StaysInside, IsStuck, Pushes, Relieves, same_slot}
use Rattle.pocsag_slots.proofs.LoadLemmas.{load_few}
use Rattle.pocsag_flow.proofs.FlowSums.{sum_below-lt}
use Rattle.pocsag_flow.proofs.Steps.{same_slot_other, same_slot_same}
use Rattle.pocsag_flow.proofs.Shifts.{class_load_over_shift, finish_low, in_set, start_low}

-- d runs fewer early, from a slot of the set only where d is 0
fewer : (less here d : ℕ) (from to : Bool) → less + d * cond from 1 0 ≡ here + d * cond to 1 0 →
    (from ≡ true → to ≡ false → d ≡ 0) → here ≤ less
fewer less here d true true h none = omega arith
fewer less here d true false h none = omega (arith, none refl refl)
fewer less here d false true h none = omega arith
fewer less here d false false h none = omega arith

-- d runs more early, to a slot of the set wherever d is not 0
greater : (here more d : ℕ) (from to : Bool) → here + d * cond from 1 0 ≡ more + d * cond to 1 0 →
    (to ≡ true → from ≡ false → d ≡ 0) → here ≤ more
greater here more d true true h none = omega arith
greater here more d true false h none = omega arith
greater here more d false true h none = omega (arith, none refl refl)
greater here more d false false h none = omega arith

-- nothing leads out of the set
pub record IsShut (l : Limits) (early : ℕ → ℕ) (set : ℕ) : Type 0 where
  pub each : (slot : ℕ) → slot < 16 → holds set slot ≡ true → StaysInside l early set slot

class_least : (k : Classes) (l : Limits) (set c : ℕ) (early other : ℕ → ℕ) → c < 136 → AreInOrder k l →
    IsWithin l early → IsWithin l other → IsShut l early set → class_load_over k set c (early c) ≤ class_load_over k set c (other c)
unfolding in_set
class_least k l set c early other h ordered within among shut =
    elim (cases_lt (other c) (early c)) [
      | inl down ↦
          let d : ℕ = early c - other c in
          let is : other c + d ≡ early c = omega arith in
          let shift : class_load_over k set c (other c) + d * cond (holds set (start_of c true)) 1 0
          ≡ class_load_over k set c (other c + d) + d * cond (holds set (finish_of c true)) 1 0 =
          class_load_over_shift k set c (other c) d h (omega (arith, within.most c h, ordered.counted c h)) in
          fewer (class_load_over k set c (other c)) (class_load_over k set c (early c)) d (holds set (start_of c true))
          (holds set (finish_of c true))
          (rw is at shift)
          (λ held out. omega (arith, ((shut.each (start_of c true) (start_low c h) held).each c h).to_late refl out, among.least c h))
      | inr up ↦
          let d : ℕ = other c - early c in
          let is : early c + d ≡ other c = omega arith in
          let shift : class_load_over k set c (early c) + d * cond (holds set (start_of c true)) 1 0
          ≡ class_load_over k set c (early c + d) + d * cond (holds set (finish_of c true)) 1 0 =
          class_load_over_shift k set c (early c) d h (omega (arith, among.most c h, ordered.counted c h)) in
          greater (class_load_over k set c (early c)) (class_load_over k set c (other c)) d (holds set (start_of c true))
          (holds set (finish_of c true))
          (rw is at shift)
          (λ held out. omega (arith, ((shut.each (finish_of c true) (finish_low c) held).each c h).to_early refl out, among.most c h))
    ]

shut_least : ClassLoadsAddUp → (k : Classes) (l : Limits) (set : ℕ) (early other : ℕ → ℕ) → AreInOrder k l →
    IsWithin l early → IsWithin l other → IsShut l early set → sum_over set (load k early) ≤ sum_over set (load k other)
shut_least law k l set early other ordered within among shut = grind (arith, sum_below-le, class_least)

chosen_le : (b : Bool) (x y : ℕ) → (b ≡ true → x ≤ y) → cond b x 0 ≤ cond b y 0
chosen_le true x y h = h refl
chosen_le false x y h = omega arith

full_sum : (set slot : ℕ) (cap loads : ℕ → ℕ) → slot < 16 → holds set slot ≡ true → cap slot < loads slot →
    ((s : ℕ) → s < 16 → holds set s ≡ true → cap s ≤ loads s) → sum_over set cap < sum_over set loads
unfolding sum_over
full_sum set slot cap loads h held above full =
    sum_below-lt 16 slot _ _ h (rw held above) (λ s l. chosen_le (holds set s) (cap s) (loads s) (λ inside. full s l inside))

-- the search from the overfull slot moved nothing
pub shut_overloads : ClassLoadsAddUp → (n : Network) (before after : Progress) (slot most moved : ℕ) → slot < 16 →
    AreInOrder n.classes.now n.limits.now → IsWithin n.limits.now (slice_index before.early) →
    ((other : ℕ) → other ≢ slot → holds before.reached other ≡ false) →
    slice_index n.limits.now.cap slot < load n.classes.now (slice_index before.early) slot →
    Pushes n before after slot most moved → moved ≡ 0 → StaysInside n.limits.now (slice_index after.early) after.reached slot →
    Overloads n.classes.now n.limits.now after.reached
shut_overloads law n before after slot most moved h ordered within alone above p none closed choice among =
    let here : StaysInside n.limits.now (slice_index before.early) after.reached slot = rw (p.same none) at closed in
    let at_slot : IsStuck n (slice_index before.early) after.reached slot = record { closed = here; full = omega (arith, above) } in
    let stuck : (s : ℕ) → s < 16 → holds after.reached s ≡ true → IsStuck n (slice_index before.early) after.reached s =
    λ s l held.
    elim (cases_eq s slot) [
      | inl is ↦ rw is at_slot
      | inr other ↦ (p.stuck none).each s l held (alone s other)
    ] in
    let least = shut_least law n.classes.now n.limits.now after.reached (slice_index before.early) choice ordered within among
    (record { each = λ s l held. (stuck s l held).closed }) in
    let caps = full_sum after.reached slot (slice_index n.limits.now.cap) (load n.classes.now (slice_index before.early)) h p.marked above
    (λ s l held. (stuck s l held).full) in
    omega (arith, least, caps)

-- a way ends in another slot
pub way_apart : (n : Network) (before after : ℕ → ℕ) (slot to moved : ℕ) →
    slice_index n.limits.now.cap slot < load n.classes.now before slot → Relieves n before after slot to moved → to ≢ slot
way_apart n before after slot to moved above relieved same = grind (arith)

-- a way takes something from the overload
pub overload_less : (n : Network) (before after : ℕ → ℕ) (slot to moved : ℕ) → slot < 16 → 0 < moved →
    slice_index n.limits.now.cap slot < load n.classes.now before slot → Relieves n before after slot to moved →
    overload n.classes.now n.limits.now after < overload n.classes.now n.limits.now before
unfolding overload
overload_less n before after slot to moved h some above relieved =
    let apart : to ≢ slot = way_apart n before after slot to moved above relieved in
    let here : load n.classes.now after slot + moved * 1 ≡ load n.classes.now before slot + moved * 0 =
    rw (same_slot_same slot, same_slot_other to slot apart) at (relieved.loads slot h) in
    sum_below-lt 16 slot _ _ h (omega arith)
    (λ s l. elim (cases_eq s to) [
      | inl is ↦
          let there : load n.classes.now after to + moved * 0 ≡ load n.classes.now before to + moved * 1 =
          rw (same_slot_other slot to (λ same. apart (sym same)), same_slot_same to) at (relieved.loads to relieved.to_fits) in
          rw is (omega (arith, relieved.room))
      | inr other ↦
          let there : load n.classes.now after s + moved * same_slot slot s ≡ load n.classes.now before s + moved * 0 =
          rw (same_slot_other to s (λ same. other (sym same))) at (relieved.loads s l) in
          omega arith
    ])

-- the load of the slot where the way ends is small
pub given_few : (n : Network) (before after : ℕ → ℕ) (slot to moved : ℕ) → AreInOrder n.classes.now n.limits.now → IsWithin n.limits.now after →
    slice_index n.limits.now.cap slot < load n.classes.now before slot → Relieves n before after slot to moved →
    load n.classes.now before to + moved ≤ 1760000
given_few n before after slot to moved ordered within above relieved = grind (arith, way_apart, same_slot_other, same_slot_same, load_few)
