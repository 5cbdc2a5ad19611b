-- The arcs by number: where they lead, and that each has its kind at its boundary.
use Rattle.pocsag_tour.proofs.Prelude.{◌≡◌, ℕ, ◌+◌, ◌-◌, ◌%◌, ◌<◌, nat_lt, Bool, true, false, cond, refl, subst, arith, nat_tests, class_frame, start_of, finish_of, arc_from, arc_to, arc_at, step_of, finish_below, start_below, is_above, not_above}
use Rattle.pocsag_slots.specs.declared.step.Step.TheVariants.{Idle as Stay, Run}

pub from_early : (a : ℕ) → a < 136 → arc_from a ≡ start_of a true
unfolding arc_from
from_early a h = rw (is_above a 136 h) refl

pub from_late : (c : ℕ) → c < 136 → arc_from (136 + c) ≡ start_of c false
unfolding arc_from
from_late c h =
    let e : 136 + c - 136 ≡ c = omega arith in
    rw (not_above (136 + c) 136 (omega arith), is_above (136 + c) 272 (omega arith), e) refl

pub from_idle : (s : ℕ) → arc_from (272 + s) ≡ s
unfolding arc_from
from_idle s = rw (not_above (272 + s) 136 (omega arith), not_above (272 + s) 272 (omega arith)) (omega arith)

pub to_early : (a : ℕ) → a < 136 → arc_to a ≡ finish_of a true
unfolding arc_to
to_early a h = rw (is_above a 136 h) refl

pub to_late : (c : ℕ) → c < 136 → arc_to (136 + c) ≡ finish_of c false
unfolding arc_to
to_late c h =
    let e : 136 + c - 136 ≡ c = omega arith in
    rw (not_above (136 + c) 136 (omega arith), is_above (136 + c) 272 (omega arith), e) refl

pub to_idle : (s : ℕ) → arc_to (272 + s) ≡ (s + 1) % 16
unfolding arc_to
to_idle s = rw (not_above (272 + s) 136 (omega arith), not_above (272 + s) 272 (omega arith)) (omega arith)

pub step_early : (a : ℕ) → a < 136 → step_of a ≡ Run a true
unfolding step_of
step_early a h = rw (is_above a 136 h) refl

pub step_late : (c : ℕ) → c < 136 → step_of (136 + c) ≡ Run c false
unfolding step_of
step_late c h =
    let e : 136 + c - 136 ≡ c = omega arith in
    rw (not_above (136 + c) 136 (omega arith), is_above (136 + c) 272 (omega arith), e) refl

pub step_idle : (s : ℕ) → step_of (272 + s) ≡ Stay
unfolding step_of
step_idle s = rw (not_above (272 + s) 136 (omega arith), not_above (272 + s) 272 (omega arith)) refl

-- what holds of all early runs, late runs and idles holds of each arc
by_test : (P : ℕ → Type 0) → ((c : ℕ) → c < 136 → P c) → ((c : ℕ) → c < 136 → P (136 + c)) → ((s : ℕ) → s < 16 → P (272 + s)) →
    (a : ℕ) (x y : Bool) → nat_lt a 136 ≡ x → nat_lt a 272 ≡ y → a < 288 → P a
by_test P early late idle a true y s t h = early a (grind (arith, nat_tests))
by_test P early late idle a false true s t h =
    let e : 136 + (a - 136) ≡ a = grind (arith, nat_tests) in
    subst P e (late (a - 136) (grind (arith, nat_tests)))
by_test P early late idle a false false s t h =
    let e : 272 + (a - 272) ≡ a = grind (arith, nat_tests) in
    subst P e (idle (a - 272) (omega arith))

pub by_kind : (P : ℕ → Type 0) → ((c : ℕ) → c < 136 → P c) → ((c : ℕ) → c < 136 → P (136 + c)) → ((s : ℕ) → s < 16 → P (272 + s)) →
    (a : ℕ) → a < 288 → P a
by_kind P early late idle a h = by_test P early late idle a (nat_lt a 136) (nat_lt a 272) refl refl h

pub from_below : (a : ℕ) → a < 288 → arc_from a < 16
from_below =
    by_kind (λ a. arc_from a < 16)
    (λ c h. rw (from_early c h) (start_below c true h)) (λ c h. rw (from_late c h) (start_below c false h)) (λ s h. rw (from_idle s) h)

pub to_below : (a : ℕ) → a < 288 → arc_to a < 16
to_below =
    by_kind (λ a. arc_to a < 16)
    (λ c h. rw (to_early c h) (finish_below c true)) (λ c h. rw (to_late c h) (finish_below c false)) (λ s h. rw (to_idle s) (omega arith))

-- the kind of an arc at its boundary
pub kind_of : ℕ → ℕ
kind_of a =
    cond (nat_lt a 128) (a % 16) (cond (nat_lt a 136) 16 (cond (nat_lt a 264) ((a - 136) % 16) (cond (nat_lt a 272) 16 17)))

pub kind_below : (a : ℕ) → kind_of a < 18
unfolding kind_of
kind_below a = grind (arith, nat_tests)

pub arc_of_kind : (a : ℕ) → a < 288 → arc_at (arc_from a) (kind_of a) ≡ a
unfolding arc_at arc_from kind_of start_of class_frame
arc_of_kind a h = grind (arith, nat_tests)

pub from_arc_at : (p kind : ℕ) → p < 16 → kind < 18 → arc_from (arc_at p kind) ≡ p
unfolding arc_at arc_from start_of class_frame
from_arc_at p kind h k = grind (arith, nat_tests)
