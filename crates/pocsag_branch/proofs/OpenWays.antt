-- Where an admitted choice is apart, no way out of what it reaches is decided, and no split either.
use Rattle.pocsag_branch.proofs.Prelude.{◌≡◌, ℕ, ◌-◌, ◌<◌, ◌≤◌, ◌&&◌, ◌||◌, nat_lt, Bool, true, false, cond, [], ◌∷◌, All, refl, arith, slice_index, inl, inr, and_parts, cases_eq, cases_lt, lt-ltb, ltb-false, ltb-true, All-append, All-cons, All-nil, End, Classes, Limits, IdleIn, Early, Late, IsAdmitted, load, joined_below, class_certain, class_ways, early_open, idle_crosses, late_open, run_crosses, run_touches, slot_ways, ways_across, ways_to_close, HasRunOutside, IsApart, IsUnclosed, runs_of, NoneCertain, SplitsAt, at_one, at_count, AreNodeLimits, Falls, IsSplitPoint}
use Rattle.pocsag_words.specs.declared.ending.End.TheVariants as ends
use Rattle.pocsag_slots.proofs.WayLemmas.{All-joined_below, All-one_or_none}
use Rattle.pocsag_branch.proofs.Settled.{early_falls, idle_falls, late_falls, splits_at_count, splits_at_one}

never_both : (b : Bool) → b ≡ true → b ≡ false → ⊥
never_both b held lost = absurd (cc)

early_runs : (k : Classes) (choice : ℕ → ℕ) (c : ℕ) → runs_of k choice c true ≡ choice c
unfolding runs_of
early_runs k choice c = refl

late_runs : (k : Classes) (choice : ℕ → ℕ) (c : ℕ) → runs_of k choice c false ≡ slice_index k.count c - choice c
unfolding runs_of
late_runs k choice c = refl

-- the tests of a way that crosses
early_parts : (k : Classes) (l : Limits) (set c : ℕ) → early_open k l set c ≡ true → (run_crosses c true set ≡ true)
    × (0 < slice_index l.hi c)
unfolding early_open
early_parts k l set c h =
    let both = and_parts (run_crosses c true set && nat_lt 0 (slice_index k.count c)) (nat_lt 0 (slice_index l.hi c)) h in
    ((and_parts (run_crosses c true set) (nat_lt 0 (slice_index k.count c)) both.0).0, ltb-true 0 (slice_index l.hi c) both.1)

late_parts : (k : Classes) (l : Limits) (set c : ℕ) → late_open k l set c ≡ true → (run_crosses c false set ≡ true)
    × (slice_index l.lo c < slice_index k.count c)
unfolding late_open
late_parts k l set c h =
    let both = and_parts (run_crosses c false set) (nat_lt (slice_index l.lo c) (slice_index k.count c)) h in
    (both.0, ltb-true (slice_index l.lo c) (slice_index k.count c) both.1)

-- a run outside touches the outside, so a class that is not certain is free there
touches_outside : (k : Classes) (choice : ℕ → ℕ) (set c : ℕ) (e : Bool) → HasRunOutside k choice set c e → run_touches c e set ≡ true
unfolding run_touches
touches_outside k choice set c e outside = rw outside.starts refl

early_uncertain : (some early late low high : Bool) → (some && ((early && late) || (early && low) || (late && high))) ≡ false →
    some ≡ true → early ≡ true → low ≡ false
early_uncertain true true true low high h there e = absurd (cc)
early_uncertain true true false true high h there e = absurd (cc)
early_uncertain true true false false high h there e = refl
early_uncertain true false late low high h there e = absurd (cc)
early_uncertain false early late low high h there e = absurd (cc)

late_uncertain : (some early late low high : Bool) → (some && ((early && late) || (early && low) || (late && high))) ≡ false →
    some ≡ true → late ≡ true → high ≡ false
late_uncertain true true true low high h there e = absurd (cc)
late_uncertain true true false low high h there e = absurd (cc)
late_uncertain true false true low true h there e = absurd (cc)
late_uncertain true false true low false h there e = refl
late_uncertain true false false low high h there e = absurd (cc)
late_uncertain false early late low high h there e = absurd (cc)

early_free : (k : Classes) (l : Limits) (set c : ℕ) → class_certain k l set c ≡ false → 0 < slice_index k.count c →
    run_touches c true set ≡ true → slice_index l.lo c ≡ 0
unfolding class_certain
early_free k l set c uncertain some touches =
    let free = early_uncertain (nat_lt 0 (slice_index k.count c)) (run_touches c true set) (run_touches c false set)
    (nat_lt 0 (slice_index l.lo c)) (nat_lt (slice_index l.hi c) (slice_index k.count c)) uncertain
    (lt-ltb 0 (slice_index k.count c) some) touches in
    omega (arith, ltb-false 0 (slice_index l.lo c) free)

late_free : (k : Classes) (l : Limits) (set c : ℕ) → class_certain k l set c ≡ false → 0 < slice_index k.count c →
    run_touches c false set ≡ true → slice_index k.count c ≤ slice_index l.hi c
unfolding class_certain
late_free k l set c uncertain some touches =
    ltb-false (slice_index l.hi c) (slice_index k.count c)
    (late_uncertain (nat_lt 0 (slice_index k.count c)) (run_touches c true set) (run_touches c false set)
    (nat_lt 0 (slice_index l.lo c)) (nat_lt (slice_index l.hi c) (slice_index k.count c)) uncertain
    (lt-ltb 0 (slice_index k.count c) some) touches)

-- where slot 15 may be left to idles, and, for the closed end, each page of class 135 may start late
pub closing_ways_fall : (k : Classes) (end : End) (batches : ℕ) (l : Limits) → AreNodeLimits k batches l → 0 < batches →
    batches ≤ slice_index l.cap 15 →
    (end ≡ ends.Closed → slice_index k.count 135 ≤ slice_index l.hi 135) → All (Falls k batches l) (ways_to_close k end l)
unfolding ways_to_close
closing_ways_fall k ends.Open batches l limits some full none = All-nil (Falls k batches l)
closing_ways_fall k ends.Idle batches l limits some full none =
    All-cons (Falls k batches l) (IdleIn 15) [] (idle_falls k batches l limits 15 some (omega arith) full) (All-nil (Falls k batches l))
closing_ways_fall k ends.Closed batches l limits some full none =
    All-cons (Falls k batches l) (IdleIn 15) (cond (nat_lt (slice_index l.lo 135) (slice_index k.count 135)) (Late 135 ∷ []) [])
    (idle_falls k batches l limits 15 some (omega arith) full)
    (All-one_or_none (Falls k batches l) (nat_lt (slice_index l.lo 135) (slice_index k.count 135)) (Late 135)
    (λ allowed. late_falls k batches l limits 135 (omega arith) (none refl) (ltb-true (slice_index l.lo 135) (slice_index k.count 135) allowed)))

module _ (k : Classes) (batches : ℕ) (l : Limits) (choice : ℕ → ℕ) (limits : AreNodeLimits k batches l)
    (admitted : IsAdmitted k l choice) where
  -- an arc that crosses what is reached does not stand
  no_early : (set c : ℕ) → IsApart k choice batches set → c < 136 → run_crosses c true set ≡ true → slice_index l.lo c ≡ 0
  no_early set c apart h crosses =
      let low : slice_index l.lo c ≤ choice c = admitted.within.least c h in
      elim (cases_eq (choice c) 0) [
        | inl none ↦ omega arith
        | inr some ↦ absurd (never_both (run_crosses c true set) crosses (apart.no_run c true h (omega (arith, early_runs k choice c))))
      ]

  no_late : (set c : ℕ) → IsApart k choice batches set → c < 136 → run_crosses c false set ≡ true →
      slice_index k.count c ≤ slice_index l.hi c
  no_late set c apart h crosses =
      let high : choice c ≤ slice_index l.hi c = admitted.within.most c h in
      elim (cases_lt (choice c) (slice_index k.count c)) [
        | inr all ↦ omega arith
        | inl some ↦ absurd (never_both (run_crosses c false set) crosses (apart.no_run c false h (omega (arith, late_runs k choice c))))
      ]

  no_idle : (set slot : ℕ) → IsApart k choice batches set → slot < 16 → idle_crosses slot set ≡ true → batches ≤ slice_index l.cap slot
  no_idle set slot apart h crosses =
      let high : load k choice slot ≤ slice_index l.cap slot = admitted.capped slot h in
      elim (cases_lt (load k choice slot) batches) [
        | inr full ↦ omega arith
        | inl room ↦ absurd (never_both (idle_crosses slot set) crosses (apart.no_idle slot h room))
      ]

  slot_ways_fall : (set slot : ℕ) → IsApart k choice batches set → 0 < batches → slot < 16 → All (Falls k batches l) (slot_ways set slot)
  unfolding slot_ways
  slot_ways_fall set slot apart some h =
      All-one_or_none (Falls k batches l) (idle_crosses slot set) (IdleIn slot)
      (λ crosses. idle_falls k batches l limits slot some h (no_idle set slot apart h crosses))

  class_ways_fall : (set c : ℕ) → IsApart k choice batches set → c < 136 → All (Falls k batches l) (class_ways k l set c)
  unfolding class_ways
  class_ways_fall set c apart h =
      All-append (Falls k batches l) (cond (early_open k l set c) (Early c ∷ []) []) (cond (late_open k l set c) (Late c ∷ []) [])
      (All-one_or_none (Falls k batches l) (early_open k l set c) (Early c)
      (λ allowed.
      let parts = early_parts k l set c allowed in
      early_falls k batches l limits c h (no_early set c apart h parts.0) parts.1))
      (All-one_or_none (Falls k batches l) (late_open k l set c) (Late c)
      (λ allowed.
      let parts = late_parts k l set c allowed in
      late_falls k batches l limits c h (no_late set c apart h parts.0) parts.1))

  pub ways_fall : (set : ℕ) → IsApart k choice batches set → 0 < batches → All (Falls k batches l) (ways_across k l set)
  unfolding ways_across
  ways_fall set apart some =
      All-append (Falls k batches l) (joined_below 16 (slot_ways set)) (joined_below 136 (class_ways k l set))
      (All-joined_below (Falls k batches l) 16 (slot_ways set) (λ slot h. slot_ways_fall set slot apart some h))
      (All-joined_below (Falls k batches l) 136 (class_ways k l set) (λ c h. class_ways_fall set c apart h))

  pub closing_fall : (end : End) → IsUnclosed k end choice batches → 0 < batches → All (Falls k batches l) (ways_to_close k end l)
  closing_fall end unclosed some =
      let last : load k choice 15 ≤ slice_index l.cap 15 = admitted.capped 15 (omega arith) in
      let most : choice 135 ≤ slice_index l.hi 135 = admitted.within.most 135 (omega arith) in
      closing_ways_fall k end batches l limits some (omega (arith, unclosed.no_idle))
      (λ closed. omega (arith, unclosed.no_late closed, late_runs k choice 135))

  pub splits_outside : (set c m : ℕ) → NoneCertain k l set → SplitsAt k choice set c m → IsSplitPoint k batches l c m
  splits_outside set c m uncertain (at_one outside one) =
      let high : choice c ≤ slice_index l.hi c = admitted.within.most c outside.known in
      let counted : slice_index l.hi c ≤ slice_index k.count c = limits.ordered.counted c outside.known in
      let some : 0 < choice c = omega (arith, outside.there, early_runs k choice c) in
      let free = early_free k l set c (uncertain c outside.known) (omega arith) (touches_outside k choice set c true outside) in
      rw one (splits_at_one k batches l limits c outside.known free (omega arith))
  splits_outside set c m uncertain (at_count none outside all) =
      let low : slice_index l.lo c ≤ choice c = admitted.within.least c outside.known in
      let some : choice c < slice_index k.count c = omega (arith, outside.there, late_runs k choice c) in
      let free = late_free k l set c (uncertain c outside.known) (omega arith) (touches_outside k choice set c false outside) in
      rw all (splits_at_count k batches l limits c outside.known free (omega arith))
