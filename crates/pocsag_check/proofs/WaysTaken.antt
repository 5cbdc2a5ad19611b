-- A tour that crosses a set takes one of its ways.
use Rattle.pocsag_check.proofs.Prelude.{◌≡◌, ℕ, zero, suc, ◌+◌, ◌<◌, ◌≤◌, true, false, cond, List, [], ◌∷◌, ◌++◌, arith, slice_index, inl, inr, nat_lt, cases_eq, cases_lt, nat_tests, End, Classes, Limits, Step, Way, runs, IsAdmitted, joined_below, IsTour, slot_ways, ways_across, Early, Late, early_open, late_open, class_ways}
use Rattle.pocsag_check.proofs.Crossings.{Crossed, by_idle, by_run}
use Rattle.pocsag_check.proofs.Refutations.{AnyTaken}

pub any_left : (k : Classes) (choice : ℕ → ℕ) (b : ℕ) (ws vs : List Way) → AnyTaken k choice b ws → AnyTaken k choice b (ws ++ vs)
any_left k choice b [] vs t = absurd t
any_left k choice b (w ∷ ws) vs (inl t) = inl t
any_left k choice b (w ∷ ws) vs (inr t) = inr (any_left k choice b ws vs t)

pub any_right : (k : Classes) (choice : ℕ → ℕ) (b : ℕ) (ws vs : List Way) → AnyTaken k choice b vs → AnyTaken k choice b (ws ++ vs)
any_right k choice b [] vs t = t
any_right k choice b (w ∷ ws) vs t = inr (any_right k choice b ws vs t)

pub any_joined : (k : Classes) (choice : ℕ → ℕ) (b n j : ℕ) (f : ℕ → List Way) → j < n → AnyTaken k choice b (f j) →
    AnyTaken k choice b (joined_below n f)
unfolding joined_below
any_joined k choice b zero j f h t = absurd (omega arith)
any_joined k choice b (suc n) j f h t =
    elim (cases_eq j n) [
      | inl same ↦ any_right k choice b (joined_below n f) (f n) (rw same at t)
      | inr other ↦ any_left k choice b (joined_below n f) (f n) (any_joined k choice b n j f (omega arith) t)
    ]

pub taken_way : (k : Classes) (end : End) (l : Limits) (choice : ℕ → ℕ) (b set : ℕ) (steps : List Step) →
    IsTour k end choice b steps → IsAdmitted k l choice → Crossed set 0 steps → AnyTaken k choice b (ways_across k l set)
unfolding ways_across slot_ways class_ways early_open late_open
taken_way k end l choice b set steps tour a (by_idle slot small crosses some) =
    any_left k choice b (joined_below 16 (slot_ways set)) (joined_below 136 (class_ways k l set))
    (any_joined k choice b 16 slot (slot_ways set) small
    (rw crosses (inl (small, omega (arith, tour.idle slot small)))))
taken_way k end l choice b set steps tour a (by_run c true crosses some) =
    elim (cases_lt c 136) [
      | inr other ↦ absurd (omega (arith, tour.no_other c true other))
      | inl small ↦
          let early : runs c true steps ≡ choice c = tour.early c small in
          let late : runs c false steps + choice c ≡ slice_index k.count c = tour.late c small in
          let high : choice c ≤ slice_index l.hi c = a.within.most c small in
          let there : nat_lt 0 (slice_index k.count c) ≡ true = grind (arith, nat_tests) in
          let free : nat_lt 0 (slice_index l.hi c) ≡ true = grind (arith, nat_tests) in
          any_right k choice b (joined_below 16 (slot_ways set)) (joined_below 136 (class_ways k l set))
          (any_joined k choice b 136 c (class_ways k l set) small
          (rw (crosses, there, free) (inl (small, omega arith))))
    ]
taken_way k end l choice b set steps tour a (by_run c false crosses some) =
    elim (cases_lt c 136) [
      | inr other ↦ absurd (omega (arith, tour.no_other c false other))
      | inl small ↦
          let late : runs c false steps + choice c ≡ slice_index k.count c = tour.late c small in
          let low : slice_index l.lo c ≤ choice c = a.within.least c small in
          let free : nat_lt (slice_index l.lo c) (slice_index k.count c) ≡ true = grind (arith, nat_tests) in
          any_right k choice b (joined_below 16 (slot_ways set)) (joined_below 136 (class_ways k l set))
          (any_joined k choice b 136 c (class_ways k l set) small
          (any_right k choice b (cond (early_open k l set c) (Early c ∷ []) []) (cond (late_open k l set c) (Late c ∷ []) [])
          (rw (crosses, free) (inl (small, omega arith)))))
    ]
