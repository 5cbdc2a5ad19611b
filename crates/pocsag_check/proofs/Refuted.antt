-- No tour of an admitted choice meets an accepted node.
use Rattle.pocsag_check.proofs.Prelude.{◌≡◌, ℕ, ◌+◌, ◌%◌, ◌<◌, ◌&&◌, ◌||◌, Bool, true, false, cond, IsTrue, List, [], ◌∷◌, refl, arith, slice_index, ◌⊎◌, inl, inr, nat_lt, cases_lt, nat_tests, End, BoundTree, BoundTrees, overload, split, cut, close, unexamined, none, more, Classes, Limits, Step, Way, runs, IsAdmitted, finish_of, AsksForLast, IsTour, LastIsWhole, Leads, idles, run_touches, class_certain, ways_across, ways_to_close, narrowed_limits, limits_below, limits_from, Accepts, AcceptsEach, IdleIn, Late, finish_below, idles_last}
use Rattle.pocsag_words.specs.declared.ending.End.TheVariants as ends
use Rattle.pocsag_slots.specs.declared.step.Step.TheVariants.{Idle as Stay, Run}
use Rattle.pocsag_check.proofs.Crossings.{IsInside, crosses_or_stays}
use Rattle.pocsag_check.proofs.Refutations.{AnyTaken, not_overloaded, admitted_below, admitted_from, admitted_narrowed}
use Rattle.pocsag_check.proofs.WaysTaken.{taken_way}

-- what a certain class has
pub record IsCertain (some early late forced_early forced_late : Bool) : Type 0 where
  pub count : some ≡ true
  pub run : ((early ≡ true) × (late ≡ true)) ⊎ (((early ≡ true) × (forced_early ≡ true)) ⊎ ((late ≡ true) × (forced_late ≡ true)))

certain_parts : (some early late forced_early forced_late : Bool) →
    (some && ((early && late) || (early && forced_early) || (late && forced_late))) ≡ true →
    IsCertain some early late forced_early forced_late
certain_parts false early late forced_early forced_late h = absurd (cc)
certain_parts true true true forced_early forced_late h = record { count = refl; run = inl (refl, refl) }
certain_parts true true false true forced_late h = record { count = refl; run = inr (inl (refl, refl)) }
certain_parts true true false false forced_late h = absurd (cc)
certain_parts true false true forced_early true h = record { count = refl; run = inr (inr (refl, refl)) }
certain_parts true false true forced_early false h = absurd (cc)
certain_parts true false false forced_early forced_late h = absurd (cc)

pub certain_is : (k : Classes) (l : Limits) (set c : ℕ) → IsTrue (class_certain k l set c) →
    IsCertain (nat_lt 0 (slice_index k.count c)) (run_touches c true set) (run_touches c false set)
    (nat_lt 0 (slice_index l.lo c)) (nat_lt (slice_index l.hi c) (slice_index k.count c))
unfolding class_certain
certain_is k l set c h = certain_parts _ _ _ _ _ h

no_runs : (set c : ℕ) (e : Bool) (steps : List Step) → IsInside set steps → run_touches c e set ≡ true → runs c e steps ≡ 0
no_runs set c e steps inside outside = grind (arith, cases_lt)

not_inside : (k : Classes) (end : End) (l : Limits) (choice : ℕ → ℕ) (b set c : ℕ) (steps : List Step) → c < 136 →
    IsTour k end choice b steps → IsAdmitted k l choice → IsTrue (class_certain k l set c) → IsInside set steps → ⊥
not_inside k end l choice b set c steps small tour a certain inside = grind (arith, certain_is, no_runs, nat_tests)

-- the last arc of a tour that ends whole, which leads to boundary 0
pub data EndsBy : ℕ → List Step → Type 0 where
  by_last_idle : {p : ℕ} {ss : List Step} → 0 < idles 15 p ss → EndsBy p ss
  by_last_run : {p : ℕ} {ss : List Step} → 0 < runs 135 false ss → EndsBy p ss

more_idle : (p : ℕ) (ss : List Step) → EndsBy ((p + 1) % 16) ss → EndsBy p (Stay ∷ ss)
more_idle p ss (by_last_idle h) = by_last_idle (omega arith)
more_idle p ss (by_last_run h) = by_last_run h

more_run : (p c : ℕ) (e : Bool) (ss : List Step) → EndsBy (finish_of c e) ss → EndsBy p (Run c e ∷ ss)
more_run p c e ss (by_last_idle h) = by_last_idle h
more_run p c e ss (by_last_run h) = by_last_run (omega arith)

ends_by : (ss : List Step) (p : ℕ) → p < 16 → Leads p ss 0 → LastIsWhole ss → EndsBy p ss
ends_by [] p small leads whole = absurd whole
ends_by (Stay ∷ []) p small leads whole = by_last_idle (let e : p ≡ 15 = omega arith in rw e (omega arith))
ends_by (Run c e ∷ []) p small leads whole = by_last_run (rw whole.0 (rw whole.1 (omega arith)))
ends_by (Stay ∷ (t ∷ ss)) p small leads whole = more_idle p (t ∷ ss) (ends_by (t ∷ ss) ((p + 1) % 16) (omega arith) leads whole)
ends_by (Run c e ∷ (t ∷ ss)) p small leads whole =
    more_run p c e (t ∷ ss) (ends_by (t ∷ ss) (finish_of c e) (finish_below c e) leads.1 whole)

closed_way : (k : Classes) (l : Limits) (choice : ℕ → ℕ) (b : ℕ) (steps : List Step) → IsTour k ends.Closed choice b steps →
    IsAdmitted k l choice →
    AnyTaken k choice b (IdleIn 15 ∷ cond (nat_lt (slice_index l.lo 135) (slice_index k.count 135)) (Late 135 ∷ []) [])
closed_way k l choice b steps tour a =
    let ending : EndsBy 0 steps = ends_by steps 0 (omega arith) tour.leads tour.last in
    grind (arith, ending, AnyTaken, nat_tests)

closing_way : (k : Classes) (end : End) (l : Limits) (choice : ℕ → ℕ) (b : ℕ) (steps : List Step) → AsksForLast end →
    IsTour k end choice b steps → IsAdmitted k l choice → AnyTaken k choice b (ways_to_close k end l)
unfolding ways_to_close
closing_way k ends.Open l choice b steps asks tour a = absurd asks
closing_way k ends.Closed l choice b steps asks tour a = closed_way k l choice b steps tour a
closing_way k ends.Idle l choice b steps asks tour a =
    inl (omega arith, omega (arith, idles_last 0 steps (omega arith) tour.leads tour.last, tour.idle 15 (omega arith)))

mutual
  pub refuted : (t : BoundTree) (k : Classes) (end : End) (l : Limits) (choice : ℕ → ℕ) (b : ℕ) (steps : List Step) →
      IsTour k end choice b steps → IsAdmitted k l choice → Accepts false k end b l t → ⊥
  refuted (overload set) k end l choice b steps tour a accepted = not_overloaded k l choice set a accepted.1
  refuted (split c m below above) k end l choice b steps tour a accepted =
      elim (cases_lt (choice c) m) [
        | inl less ↦ refuted below k end (limits_below l c m) choice b steps tour (admitted_below k l choice c m a less) accepted.3
        | inr least ↦ refuted above k end (limits_from l c m) choice b steps tour (admitted_from k l choice c m a least) accepted.4
      ]
  refuted (cut set c children) k end l choice b steps tour a accepted =
      elim (crosses_or_stays set steps 0 0 (omega arith) accepted.2 tour.leads) [
        | inl crossed ↦ each_refuted children (ways_across k l set) k end l choice b steps tour a accepted.5
            (taken_way k end l choice b set steps tour a crossed)
        | inr inside ↦ not_inside k end l choice b set c steps accepted.0 tour a accepted.3 inside
      ]
  refuted (close children) k end l choice b steps tour a accepted =
      each_refuted children (ways_to_close k end l) k end l choice b steps tour a accepted.2
      (closing_way k end l choice b steps accepted.0 tour a)
  refuted unexamined k end l choice b steps tour a accepted = absurd (cc accepted)

  pub each_refuted : (ts : BoundTrees) (ws : List Way) (k : Classes) (end : End) (l : Limits) (choice : ℕ → ℕ) (b : ℕ) (steps : List Step) →
      IsTour k end choice b steps → IsAdmitted k l choice → AcceptsEach false k end b l ws ts → AnyTaken k choice b ws → ⊥
  each_refuted none [] k end l choice b steps tour a accepted taken = absurd taken
  each_refuted none (w ∷ ws) k end l choice b steps tour a accepted taken = absurd accepted
  each_refuted (more t ts) [] k end l choice b steps tour a accepted taken = absurd taken
  each_refuted (more t ts) (w ∷ ws) k end l choice b steps tour a accepted (inl here) =
      refuted t k end (narrowed_limits k l w b) choice b steps tour (admitted_narrowed k l choice b w a here) accepted.0
  each_refuted (more t ts) (w ∷ ws) k end l choice b steps tour a accepted (inr later) =
      each_refuted ts ws k end l choice b steps tour a accepted.1 later
