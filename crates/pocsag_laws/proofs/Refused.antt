-- What is refused has no tour.
use Rattle.pocsag_tour.proofs.Prelude.{◌≡◌, ℕ, ◌+◌, ◌%◌, ◌<◌, ◌==◌, ◌&&◌, ◌⊎◌, Bool, true, false, not, cond, List, [], ◌∷◌, refl, subst, ◌∙◌, arith, eq-eqb, inl, inr, eqb-true, End, Classes, Step, load, start_of, finish_of, holds, idles, AsksForLast, IsTour, LastIsWhole, Leads, IsReached, IsUnclosed, runs_of}
use Rattle.pocsag_laws.proofs.Prelude.{cases_lt}
use Rattle.pocsag_words.specs.declared.ending.End.TheVariants as ends
use Rattle.pocsag_slots.specs.Arcs.{runs}
use Rattle.pocsag_slots.specs.declared.step.Step.TheVariants.{Idle as Stay, Run}
use Rattle.pocsag_tour.specs.Reached.{IsApart, at_start, by_idle, by_run}
use Rattle.pocsag_slots.proofs.CoverLemmas.{finish_below, start_below}
use Rattle.pocsag_slots.proofs.Endings.{idles_last}
use Rattle.pocsag_tour.proofs.Walks.{hit}

-- a closed way to boundary 0 has an idle in slot 15 or a late run of class 135
one_idle : (p : ℕ) → p < 16 → (p + 1) % 16 ≡ 0 → ◌≡◌ {A = ℕ} (cond (p == 15) 1 0) 1
one_idle p h e = let at : p ≡ 15 = omega arith in let t : (p == 15) ≡ true = eq-eqb p 15 at in rw t refl

one_late : (c : ℕ) (e : Bool) → c ≡ 135 → e ≡ false → ◌≡◌ {A = ℕ} (cond ((c == 135) && cond false e (not e)) 1 0) 1
one_late c e same late = let t : (c == 135) ≡ true = eq-eqb c 135 same in rw (t, late) refl

closes : (p : ℕ) (ss : List Step) → p < 16 → Leads p ss 0 → LastIsWhole ss → (0 < idles 15 p ss) ⊎ (0 < runs 135 false ss)
closes p [] h leads whole = absurd whole
closes p (Stay ∷ []) h leads whole = inl (omega (arith, one_idle p h leads))
closes p (Run c e ∷ []) h leads whole = inr (omega (arith, one_late c e whole.0 whole.1))
closes p (Stay ∷ t ∷ ss) h leads whole =
    elim (closes ((p + 1) % 16) (t ∷ ss) (omega arith) leads whole) [
      | inl idle ↦ inl (omega (arith, idle))
      | inr late ↦ inr late
    ]
closes p (Run c e ∷ t ∷ ss) h leads whole =
    elim (closes (finish_of c e) (t ∷ ss) (finish_below c e) leads.1 whole) [
      | inl idle ↦ inl idle
      | inr late ↦ inr (omega (arith, late))
    ]

pub never_unclosed : (k : Classes) (end : End) (choice : ℕ → ℕ) (b : ℕ) (ss : List Step) → AsksForLast end → IsUnclosed k end choice b →
    IsTour k end choice b ss → ⊥
unfolding runs_of
never_unclosed k ends.Open choice b ss asks u t = absurd asks
never_unclosed k ends.Closed choice b ss asks u t = let late = u.no_late refl in grind (arith, closes)
never_unclosed k ends.Idle choice b ss asks u t =
    absurd (omega (arith, idles_last 0 ss (omega arith) t.leads t.last, t.idle 15 (omega arith), u.no_idle))

-- the head of steps is a run of the class, or it is among the others
split_run : (b e f : Bool) (n : ℕ) → 0 < cond (b && cond e f (not f)) 1 0 + n → ((b ≡ true) × (f ≡ e)) ⊎ (0 < n)
split_run true true true n h = inl (refl, refl)
split_run true true false n h = inr (omega arith)
split_run true false true n h = inr (omega arith)
split_run true false false n h = inl (refl, refl)
split_run false true f n h = inr (omega arith)
split_run false false f n h = inr (omega arith)

same_head : (d c : ℕ) (f e : Bool) → (d == c) ≡ true → f ≡ e → start_of d f ≡ start_of c e
same_head d c f e x y = let same : d ≡ c = eqb-true d c x in rw (same, y) refl

own_run : (d : ℕ) (f : Bool) (b : Bool) → b ≡ true → ◌≡◌ {A = ℕ} (cond (b && cond f f (not f)) 1 0) 1
own_run d true true h = refl
own_run d false true h = refl
own_run d f false h = absurd (cc)

-- each run of a way from a boundary that is reached starts at one that is reached
all_reached : (k : Classes) (choice : ℕ → ℕ) (b c : ℕ) (e : Bool) (p : ℕ) (ss : List Step) →
    ((d : ℕ) (f : Bool) → 0 < runs d f ss → (d < 136) × (0 < runs_of k choice d f)) →
    ((s : ℕ) → s < 16 → 0 < idles s p ss → load k choice s < b) →
    p < 16 → IsReached k choice b p → Leads p ss 0 → 0 < runs c e ss → IsReached k choice b (start_of c e)
all_reached k choice b c e p [] have idle h r leads some = absurd (omega arith)
all_reached k choice b c e p (Stay ∷ ss) have idle h r leads some =
    all_reached k choice b c e ((p + 1) % 16) ss have
    (λ s l more. idle s l (omega (arith, more)))
    (omega arith) (by_idle p h (idle p h (omega (arith, hit p))) r) leads some
all_reached k choice b c e p (Run d f ∷ ss) have idle h r leads some =
    elim (split_run (d == c) e f (runs c e ss) some) [
      | inl here ↦ subst (IsReached k choice b) (leads.0 ∙ same_head d c f e here.0 here.1) r
      | inr later ↦
          let own : (d < 136) × (0 < runs_of k choice d f) = have d f (omega (arith, own_run d f (d == d) (eq-eqb d d refl))) in
          all_reached k choice b c e (finish_of d f) ss
          (λ g x more. have g x (omega (arith, more))) idle
          (finish_below d f) (by_run d f own.0 own.1 (subst (IsReached k choice b) leads.0 r)) leads.1 later
    ]

runs_are : (k : Classes) (choice : ℕ → ℕ) (b : ℕ) (end : End) (ss : List Step) → IsTour k end choice b ss → (c : ℕ) (e : Bool) → c < 136 →
    runs c e ss ≡ runs_of k choice c e
unfolding runs_of
runs_are k choice b end ss t c true h = t.early c h
runs_are k choice b end ss t c false h = omega (arith, t.late c h)

known_runs : (k : Classes) (choice : ℕ → ℕ) (b : ℕ) (end : End) (ss : List Step) → IsTour k end choice b ss → (d : ℕ) (f : Bool) →
    0 < runs d f ss → (d < 136) × (0 < runs_of k choice d f)
known_runs k choice b end ss t d f some =
    let low : d < 136 = elim (cases_lt d 136) [ inl less ↦ less | inr above ↦ absurd (omega (arith, some, t.no_other d f above)) ] in
    (low, rw (runs_are k choice b end ss t d f low) at some)

pub never_apart : (k : Classes) (end : End) (choice : ℕ → ℕ) (b set : ℕ) (ss : List Step) → IsApart k choice b set →
    IsTour k end choice b ss → ⊥
never_apart k end choice b set ss a t =
    let o = a.outside in
    let there : 0 < runs o.class o.early ss =
    rw (runs_are k choice b end ss t o.class o.early o.run.known) o.run.there in
    let reached : IsReached k choice b (start_of o.class o.early) =
    all_reached k choice b o.class o.early 0 ss (known_runs k choice b end ss t) (λ s h some. omega (arith, t.idle s h, some))
    (omega arith) at_start t.leads there in
    let inside : holds set (start_of o.class o.early) ≡ true =
    (a.exact (start_of o.class o.early) (start_below o.class o.early o.run.known)).1 reached in
    let apart : holds set (start_of o.class o.early) ≡ false = o.run.starts in
    absurd (cc)
