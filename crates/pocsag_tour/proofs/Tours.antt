-- Ways over all arcs are tours, and what refusals say.
use Rattle.pocsag_tour.proofs.Prelude.{◌≡◌, ℕ, ◌+◌, ◌-◌, ◌%◌, ◌<◌, ◌≤◌, Bool, true, false, not, cond, List, [], ◌∷◌, refl, sym, subst, ◌∙◌, arith, inl, inr, End, Classes, Step, IsChoice, load, class_frame, start_of, finish_of, holds, IsTour, LastAs, arc_count, arc_from, arc_to, AreCounts, IsClosing, IsWay, NoneEnters, NoneLeaves, RunsStart, Visited, by_arc, step_of, AreReached, IsReached, IsUnclosed, runs_of, cases_Bool, AreCarried, class_rest, by_idle, by_run, IsRefused, LiesOutside, NoIdleCrosses, NoRunCrosses}
use Rattle.pocsag_words.specs.declared.ending.End.TheVariants as ends
use Rattle.pocsag_slots.specs.Ways.{run_crosses, idle_crosses}
use Rattle.pocsag_tour.specs.declared.fault.TourFault.{TourFault}
use Rattle.pocsag_tour.specs.declared.fault.TourFault.TheVariants.{Apart, Unclosed, OutOfMemory}
use Rattle.pocsag_tour.specs.Moves.{NoWay, at_start as visited_start}
use Rattle.pocsag_tour.specs.Reached.{at_start}
use Rattle.pocsag_tour.proofs.CoverLemmas.{balanced_start, count_early, count_idle, count_late}
use Rattle.pocsag_tour.proofs.Geometry.{by_kind, from_below, from_early, from_idle, from_late, step_idle, step_late, to_below, to_early, to_idle, to_late}
use Rattle.pocsag_tour.proofs.Joined.{balance_enters}
use Rattle.pocsag_tour.proofs.Walks.{taken_early, taken_idle, taken_late}

pub tour_of : (k : Classes) (end : End) (choice : ℕ → ℕ) (b : ℕ) (counts : ℕ → ℕ) (ss : List Step) → AreCounts k choice b counts →
    IsChoice k choice →
    ((slot : ℕ) → slot < 16 → load k choice slot ≤ b) → IsWay counts 0 ss → LastAs end ss → IsTour k end choice b ss
tour_of k end choice b counts ss are chosen within w last =
    record {
      leads = w.leads;
      early = λ c h. sym (taken_early c ss h) ∙ (w.takes c (omega arith) ∙ (are c (omega arith) ∙ count_early k choice b c h));
      late = λ c h.
          omega (
            arith,
            taken_late c ss h,
            w.takes (136 + c) (omega arith),
            are (136 + c) (omega arith),
            count_late k choice b c h,
            chosen c h,
          );
      no_other = w.no_other;
      idle = λ s h.
          omega (arith, taken_idle s ss, w.takes (272 + s) (omega arith), are (272 + s) (omega arith), count_idle k choice b s, within s h);
      last = last;
    }

-- the arc of a run
arc_of : ℕ → Bool → ℕ
arc_of c early = cond early c (136 + c)

arc_known : (c : ℕ) (e : Bool) → c < 136 → arc_of c e < 288
unfolding arc_of
arc_known c true h = omega arith
arc_known c false h = omega arith

arc_starts : (c : ℕ) (e : Bool) → c < 136 → arc_from (arc_of c e) ≡ start_of c e
unfolding arc_of
arc_starts c true h = from_early c h
arc_starts c false h = from_late c h

arc_finishes : (c : ℕ) (e : Bool) → c < 136 → arc_to (arc_of c e) ≡ finish_of c e
unfolding arc_of
arc_finishes c true h = to_early c h
arc_finishes c false h = to_late c h

arc_counts : (k : Classes) (choice : ℕ → ℕ) (b : ℕ) (counts : ℕ → ℕ) → AreCounts k choice b counts → (c : ℕ) (e : Bool) → c < 136 →
    counts (arc_of c e) ≡ runs_of k choice c e
unfolding arc_of runs_of
arc_counts k choice b counts are c true h = are c (omega arith) ∙ count_early k choice b c h
arc_counts k choice b counts are c false h = are (136 + c) (omega arith) ∙ count_late k choice b c h

early_runs : (k : Classes) (choice : ℕ → ℕ) (b c : ℕ) → c < 136 → arc_count k choice b c ≡ runs_of k choice c true
unfolding runs_of
early_runs k choice b c h = count_early k choice b c h

late_runs : (k : Classes) (choice : ℕ → ℕ) (b c : ℕ) → c < 136 → arc_count k choice b (136 + c) ≡ runs_of k choice c false
unfolding runs_of
late_runs k choice b c h = count_late k choice b c h

some_idle : (k : Classes) (choice : ℕ → ℕ) (b : ℕ) (counts : ℕ → ℕ) → AreCounts k choice b counts → (s : ℕ) → s < 16 →
    counts (272 + s) ≡ b - load k choice s
some_idle k choice b counts are s h = are (272 + s) (omega arith) ∙ count_idle k choice b s

-- a set that no arc leaves keeps the runs and idles that start in it
run_stays : (k : Classes) (choice : ℕ → ℕ) (b : ℕ) (counts : ℕ → ℕ) (set : ℕ) → AreCounts k choice b counts → NoneLeaves counts set →
    (c : ℕ) (e : Bool) → c < 136 → 0 < runs_of k choice c e → holds set (start_of c e) ≡ true → holds set (finish_of c e) ≡ true
run_stays k choice b counts set are none c e h some held =
    rw (arc_finishes c e h) at (none (arc_of c e) (arc_known c e h) (rw (arc_counts k choice b counts are c e h) some)
    (rw (arc_starts c e h) held))

run_from : (k : Classes) (choice : ℕ → ℕ) (b : ℕ) (counts : ℕ → ℕ) (set : ℕ) → AreCounts k choice b counts → NoneEnters counts set →
    (c : ℕ) (e : Bool) → c < 136 → 0 < runs_of k choice c e → holds set (finish_of c e) ≡ true → holds set (start_of c e) ≡ true
run_from k choice b counts set are none c e h some held =
    rw (arc_starts c e h) at (none (arc_of c e) (arc_known c e h) (rw (arc_counts k choice b counts are c e h) some)
    (rw (arc_finishes c e h) held))

idle_stays : (k : Classes) (choice : ℕ → ℕ) (b : ℕ) (counts : ℕ → ℕ) (set : ℕ) → AreCounts k choice b counts → NoneLeaves counts set →
    (s : ℕ) → s < 16 → load k choice s < b → holds set s ≡ true → holds set ((s + 1) % 16) ≡ true
idle_stays k choice b counts set are none s h some held =
    let there : 0 < counts (272 + s) = omega (arith, some_idle k choice b counts are s h) in
    rw (to_idle s) at (none (272 + s) (omega arith) there (rw (from_idle s) held))

idle_from : (k : Classes) (choice : ℕ → ℕ) (b : ℕ) (counts : ℕ → ℕ) (set : ℕ) → AreCounts k choice b counts → NoneEnters counts set →
    (s : ℕ) → s < 16 → load k choice s < b → holds set ((s + 1) % 16) ≡ true → holds set s ≡ true
idle_from k choice b counts set are none s h some held =
    let there : 0 < counts (272 + s) = omega (arith, some_idle k choice b counts are s h) in
    rw (from_idle s) at (none (272 + s) (omega arith) there (rw (to_idle s) held))

-- an arc leads on to what is reached
reached_by : (k : Classes) (choice : ℕ → ℕ) (b : ℕ) (counts : ℕ → ℕ) → AreCounts k choice b counts →
    (a : ℕ) → a < 288 → 0 < counts a → IsReached k choice b (arc_from a) → IsReached k choice b (arc_to a)
reached_by k choice b counts are =
    by_kind (λ a. 0 < counts a → IsReached k choice b (arc_from a) → IsReached k choice b (arc_to a))
    (λ c h some r. subst (IsReached k choice b) (sym (to_early c h))
    (by_run c true h (rw (are c (omega arith) ∙ early_runs k choice b c h) at some)
    (subst (IsReached k choice b) (from_early c h) r)))
    (λ c h some r. subst (IsReached k choice b) (sym (to_late c h))
    (by_run c false h (rw (are (136 + c) (omega arith) ∙ late_runs k choice b c h) at some)
    (subst (IsReached k choice b) (from_late c h) r)))
    (λ s h some r. subst (IsReached k choice b) (sym (to_idle s))
    (by_idle s h (omega (arith, some_idle k choice b counts are s h)) (subst (IsReached k choice b) (from_idle s) r)))

not_true : (x y : Bool) → (y ≡ true → x ≡ true) → x ≡ false → y ≡ false
not_true x true h f = absurd (let t : x ≡ true = h refl in cc)
not_true x false h f = refl

stays : (x y : Bool) → (x ≡ true → y ≡ true) → (y ≡ true → x ≡ true) → cond x (not y) y ≡ false
stays true true h g = refl
stays true false h g = absurd (let t : false ≡ true = h refl in cc)
stays false true h g = absurd (let t : false ≡ true = g refl in cc)
stays false false h g = refl

run_same : (c : ℕ) (e : Bool) (set : ℕ) → (holds set (start_of c e) ≡ true → holds set (finish_of c e) ≡ true) →
    (holds set (finish_of c e) ≡ true → holds set (start_of c e) ≡ true) → run_crosses c e set ≡ false
unfolding run_crosses
run_same c e set h g = stays (holds set (start_of c e)) (holds set (finish_of c e)) h g

idle_same : (s set : ℕ) → (holds set s ≡ true → holds set ((s + 1) % 16) ≡ true) →
    (holds set ((s + 1) % 16) ≡ true → holds set s ≡ true) → idle_crosses s set ≡ false
unfolding idle_crosses
idle_same s set h g = stays (holds set s) (holds set ((s + 1) % 16)) h g

outside_of : (k : Classes) (choice : ℕ → ℕ) (b : ℕ) (counts : ℕ → ℕ) (set : ℕ) → AreCounts k choice b counts → NoneEnters counts set →
    (c : ℕ) (e : Bool) → c < 136 → 0 < runs_of k choice c e → holds set (start_of c e) ≡ false → LiesOutside k choice set
outside_of k choice b counts set are none c e h some out =
    record {
      class = c;
      early = e;
      run = record {
        known = h;
        there = some;
        starts = out;
        finishes = not_true (holds set (start_of c e)) (holds set (finish_of c e)) (run_from k choice b counts set are none c e h some) out;
      };
    }

lies_outside : (k : Classes) (choice : ℕ → ℕ) (b : ℕ) (counts : ℕ → ℕ) (set : ℕ) → AreCounts k choice b counts → NoneEnters counts set →
    (a : ℕ) → a < 288 → a < 272 → 0 < counts a → holds set (arc_from a) ≡ false → LiesOutside k choice set
lies_outside k choice b counts set are none =
    by_kind (λ a. a < 272 → 0 < counts a → holds set (arc_from a) ≡ false → LiesOutside k choice set)
    (λ c h low some out. outside_of k choice b counts set are none c true h
    (rw (are c (omega arith) ∙ early_runs k choice b c h) at some)
    (rw (from_early c h) at out))
    (λ c h low some out. outside_of k choice b counts set are none c false h
    (rw (are (136 + c) (omega arith) ∙ late_runs k choice b c h) at some)
    (rw (from_late c h) at out))
    (λ s h low some out. absurd (omega arith))

-- what is reached is visited over arcs by number
reached_visited : (k : Classes) (choice : ℕ → ℕ) (b : ℕ) (counts : ℕ → ℕ) → AreCounts k choice b counts → (p : ℕ) →
    IsReached k choice b p → Visited counts p
reached_visited k choice b counts are _ at_start = visited_start
reached_visited k choice b counts are _ (by_idle s h some rest) =
    let there : 0 < counts (272 + s) = omega (arith, some_idle k choice b counts are s h) in
    subst (Visited counts) (to_idle s)
    (by_arc (272 + s) (omega arith) there (subst (Visited counts) (sym (from_idle s)) (reached_visited k choice b counts are s rest)))
reached_visited k choice b counts are _ (by_run c e h some rest) =
    subst (Visited counts) (arc_finishes c e h)
    (by_arc (arc_of c e) (arc_known c e h) (rw (arc_counts k choice b counts are c e h) some)
    (subst (Visited counts) (sym (arc_starts c e h)) (reached_visited k choice b counts are (start_of c e) rest)))

-- the set of all boundaries that are reached
pub reached_start : (k : Classes) (choice : ℕ → ℕ) (b set : ℕ) → AreReached k choice b set → holds set 0 ≡ true
reached_start k choice b set exact = (exact 0 (omega arith)).1 at_start

pub reached_members : (k : Classes) (choice : ℕ → ℕ) (b : ℕ) (counts : ℕ → ℕ) (set : ℕ) → AreCounts k choice b counts →
    AreReached k choice b set → (p : ℕ) → p < 16 → holds set p ≡ true → Visited counts p
reached_members k choice b counts set are exact p h held = reached_visited k choice b counts are p ((exact p h).0 held)

pub reached_closed : (k : Classes) (choice : ℕ → ℕ) (b : ℕ) (counts : ℕ → ℕ) (set : ℕ) → AreCounts k choice b counts →
    AreReached k choice b set → NoneLeaves counts set
reached_closed k choice b counts set are exact a h some held =
    (exact (arc_to a) (to_below a h)).1 (reached_by k choice b counts are a h some ((exact (arc_from a) (from_below a h)).0 held))

reached_entered : (k : Classes) (choice : ℕ → ℕ) (b : ℕ) (counts : ℕ → ℕ) (set : ℕ) → AreCounts k choice b counts → AreCarried k choice b →
    AreReached k choice b set → NoneEnters counts set
reached_entered k choice b counts set are within exact =
    balance_enters counts set (balanced_start k choice b counts are within) (reached_closed k choice b counts set are exact)

own_counts : (k : Classes) (choice : ℕ → ℕ) (b : ℕ) → AreCounts k choice b (arc_count k choice b)
own_counts k choice b a h = refl

pub no_run_crosses : (k : Classes) (choice : ℕ → ℕ) (b set : ℕ) → AreCarried k choice b → AreReached k choice b set →
    NoRunCrosses k choice set
no_run_crosses k choice b set within exact c e h some =
    let counts : ℕ → ℕ = arc_count k choice b in
    run_same c e set (run_stays k choice b counts set (own_counts k choice b)
    (reached_closed k choice b counts set (own_counts k choice b) exact) c e h some)
    (run_from k choice b counts set (own_counts k choice b)
    (reached_entered k choice b counts set (own_counts k choice b) within exact) c e h some)

pub no_idle_crosses : (k : Classes) (choice : ℕ → ℕ) (b set : ℕ) → AreCarried k choice b → AreReached k choice b set →
    NoIdleCrosses k choice b set
no_idle_crosses k choice b set within exact s h some =
    let counts : ℕ → ℕ = arc_count k choice b in
    idle_same s set (idle_stays k choice b counts set (own_counts k choice b)
    (reached_closed k choice b counts set (own_counts k choice b) exact) s h some)
    (idle_from k choice b counts set (own_counts k choice b)
    (reached_entered k choice b counts set (own_counts k choice b) within exact) s h some)

-- where no run lies outside what is reached, each starts in it
pub runs_start : (k : Classes) (choice : ℕ → ℕ) (b : ℕ) (counts : ℕ → ℕ) (set : ℕ) → AreCounts k choice b counts → AreCarried k choice b →
    AreReached k choice b set → (LiesOutside k choice set → ⊥) → RunsStart counts set
runs_start k choice b counts set are within exact none a h some =
    elim (cases_Bool (holds set (arc_from a))) [
      | inl held ↦ held
      | inr out ↦ absurd (none (lies_outside k choice b counts set are (reached_entered k choice b counts set are within exact) a
          (omega arith) h some out))
    ]

pub unclosed : (k : Classes) (end : End) (choice : ℕ → ℕ) (b : ℕ) (counts : ℕ → ℕ) (ss : List Step) → AreCounts k choice b counts →
    IsChoice k choice → ((slot : ℕ) → slot < 16 → load k choice slot ≤ b) → IsWay counts 0 ss → counts 287 ≡ 0 →
    (end ≡ ends.Closed → counts 271 ≡ 0) → IsUnclosed k end choice b
unfolding runs_of
unclosed k end choice b counts ss are chosen within w idle late =
    record {
      steps = ss;
      tour = tour_of k ends.Open choice b counts ss are chosen within w tt;
      no_idle = omega (arith, some_idle k choice b counts are 15 (omega arith), within 15 (omega arith));
      no_late = λ closed. omega (arith, late closed, are 271 (omega arith), count_late k choice b 135 (omega arith));
    }

-- why there was no way says why there is no tour
pub refused : (k : Classes) (choice : ℕ → ℕ) (b : ℕ) (counts : ℕ → ℕ) (end : End) (fault : TourFault) → AreCounts k choice b counts →
    IsChoice k choice →
    ((slot : ℕ) → slot < 16 → load k choice slot ≤ b) → NoWay counts end fault → IsRefused k choice b end fault
refused k choice b counts end (Apart set) are chosen within never = absurd never
refused k choice b counts end Unclosed are chosen within known =
    (known.0, unclosed k end choice b counts known.3.0 are chosen within known.3.1 known.1 known.2)
refused k choice b counts end OutOfMemory are chosen within known =
    (known.0, tour_of k end choice b counts known.0 are chosen within known.1.0 known.1.1)

-- the two arcs that may close, and the ends that they serve
pub closing_idle : (counts : ℕ → ℕ) → 0 < counts 287 → IsClosing counts 287
closing_idle counts some = record { known = omega arith; there = some; from = from_idle 15; to = to_idle 15 }

pub idle_is_last : (end : End) → LastAs end (step_of 287 ∷ [])
idle_is_last ends.Open = tt
idle_is_last ends.Closed = rw (step_idle 15) tt
idle_is_last ends.Idle = rw (step_idle 15) tt

pub closing_late : (counts : ℕ → ℕ) → 0 < counts 271 → IsClosing counts 271
unfolding start_of finish_of class_frame class_rest
closing_late counts some =
    record { known = omega arith; there = some; from = from_late 135 (omega arith); to = to_late 135 (omega arith) }

pub late_is_last : LastAs ends.Closed (step_of 271 ∷ [])
late_is_last = rw (step_late 135 (omega arith)) (refl, refl)
