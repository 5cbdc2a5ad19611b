-- A tour that starts inside a set of boundaries crosses it, or all its runs stay inside.
use Rattle.pocsag_check.proofs.Prelude.{◌≡◌, ℕ, ◌+◌, ◌%◌, ◌<◌, ◌==◌, ◌&&◌, Bool, true, false, not, cond, List, [], ◌∷◌, refl, arith, ◌⊎◌, inl, inr, Step, runs, start_of, finish_of, holds, Leads, idles, idle_crosses, run_touches, eq-eqb, cases_Bool, eqb-true, run_crosses, finish_below}
use Rattle.pocsag_slots.specs.declared.step.Step.TheVariants.{Idle as Stay, Run}

-- some arc has exactly one end in the set
pub data Crossed : ℕ → ℕ → List Step → Type 0 where
  by_idle : {set p : ℕ} {ss : List Step} → (slot : ℕ) → slot < 16 → idle_crosses slot set ≡ true → 0 < idles slot p ss → Crossed set p ss
  by_run : {set p : ℕ} {ss : List Step} → (c : ℕ) (e : Bool) → run_crosses c e set ≡ true → 0 < runs c e ss → Crossed set p ss

-- each run has both ends in the set
pub record IsInside (set : ℕ) (ss : List Step) : Type 0 where
  pub each : (c : ℕ) (e : Bool) → 0 < runs c e ss → run_touches c e set ≡ false

pub idle_leaves : (set p : ℕ) → holds set p ≡ true → holds set ((p + 1) % 16) ≡ false → idle_crosses p set ≡ true
unfolding idle_crosses
idle_leaves set p here there = rw (here, there) refl

run_leaves : (set c : ℕ) (e : Bool) → holds set (start_of c e) ≡ true → holds set (finish_of c e) ≡ false → run_crosses c e set ≡ true
unfolding run_crosses
run_leaves set c e here there = rw (here, there) refl

run_stays : (set c : ℕ) (e : Bool) → holds set (start_of c e) ≡ true → holds set (finish_of c e) ≡ true → run_touches c e set ≡ false
unfolding run_touches
run_stays set c e here there = rw (here, there) refl

own_idle : (p : ℕ) (ss : List Step) → 0 < idles p p (Stay ∷ ss)
own_idle p ss = let same : (p == p) ≡ true = eq-eqb p p refl in rw same (omega arith)

same_start : (e : Bool) → cond e e (not e) ≡ true
same_start true = refl
same_start false = refl

pub own_run : (c : ℕ) (e : Bool) (ss : List Step) → 0 < runs c e (Run c e ∷ ss)
own_run c e ss =
    let same : (c == c) ≡ true = eq-eqb c c refl in
    rw (same, same_start e) (omega arith)

later_idle : (set p : ℕ) (ss : List Step) → Crossed set ((p + 1) % 16) ss → Crossed set p (Stay ∷ ss)
later_idle set p ss (by_idle slot small crosses some) = by_idle slot small crosses (omega arith)
later_idle set p ss (by_run c e crosses some) = by_run c e crosses some

later_run : (set p c : ℕ) (e : Bool) (ss : List Step) → Crossed set (finish_of c e) ss → Crossed set p (Run c e ∷ ss)
later_run set p c e ss (by_idle slot small crosses some) = by_idle slot small crosses some
later_run set p c e ss (by_run d f crosses some) = by_run d f crosses (omega arith)

-- the run that is counted is this one
own_counted : (c d : ℕ) (e f : Bool) → ((c == d) && cond f e (not e)) ≡ true → (c ≡ d) × (e ≡ f)
own_counted c d e f h = grind (arith, eqb-true)

inside_run : (set c : ℕ) (e : Bool) (ss : List Step) → run_touches c e set ≡ false → IsInside set ss → IsInside set (Run c e ∷ ss)
inside_run set c e ss own rest = record {
  each = λ d f some. go d f ((c == d) && cond f e (not e)) refl some;
}
  where
    go : (d : ℕ) (f : Bool) (b : Bool) → ((c == d) && cond f e (not e)) ≡ b → 0 < cond b 1 0 + runs d f ss → run_touches d f set ≡ false
    go d f true is some =
        let same = own_counted c d e f is in
        rw same.0 at (rw same.1 at own)
    go d f false is some = rest.each d f (omega arith)

pub crosses_or_stays : (set : ℕ) (ss : List Step) (p q : ℕ) → p < 16 → holds set p ≡ true → Leads p ss q →
    Crossed set p ss ⊎ IsInside set ss
crosses_or_stays set [] p q small here leads = inr (record { each = λ c e some. absurd (omega arith) })
crosses_or_stays set (Stay ∷ ss) p q small here leads =
    elim (cases_Bool (holds set ((p + 1) % 16))) [
      | inr out ↦ inl (by_idle p small (idle_leaves set p here out) (own_idle p ss))
      | inl still ↦ elim (crosses_or_stays set ss ((p + 1) % 16) q (omega arith) still leads) [
        | inl crossed ↦ inl (later_idle set p ss crossed)
        | inr inside ↦ inr (record { each = inside.each })
      ]
    ]
crosses_or_stays set (Run c e ∷ ss) p q small here leads =
    let start : holds set (start_of c e) ≡ true = rw leads.0 at here in
    elim (cases_Bool (holds set (finish_of c e))) [
      | inr out ↦ inl (by_run c e (run_leaves set c e start out) (own_run c e ss))
      | inl still ↦ elim (crosses_or_stays set ss (finish_of c e) q (finish_below c e) still leads.1) [
        | inl crossed ↦ inl (later_run set p c e ss crossed)
        | inr inside ↦ inr (inside_run set c e ss (run_stays set c e start still) inside)
      ]
    ]
