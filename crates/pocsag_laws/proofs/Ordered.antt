-- Limits stay in order at the children of a node.
use Rattle.pocsag_laws.proofs.Prelude.{nat_lt, cond, slice_index, Classes, Limits, Way, min, max, ltb-true, All-cons, recursion_from_All, AllByRecursion, AreInOrder, MayTake, limits_below, limits_from, narrowed_limits, ways_across, ways_to_close}
use Rattle.pocsag_findings.proofs.Prelude.{◌≡◌, ℕ, ◌-◌, ◌<◌, ◌≤◌, [], ◌∷◌, ap, arith, End}
use Rattle.std.specs.Prelude.{All}
use Rattle.pocsag_words.specs.declared.ending.End.TheVariants as ends
use Rattle.pocsag_slots.specs.declared.way.Way.TheVariants.{IdleIn, Early, Late}
use Rattle.pocsag_slots.proofs.WayLemmas.{All-one_or_none, ways_allowed}
use Rattle.pocsag_check.proofs.Refutations.{high_set, low_set}

pub ordered_below : (k : Classes) (l : Limits) (c m : ℕ) → AreInOrder k l → slice_index l.lo c < m → m ≤ slice_index l.hi c →
    AreInOrder k (limits_below l c m)
ordered_below k l c m o low high = record {
  order = λ d h. high_set l.hi c (m - 1) d (slice_index l.lo d) (o.order d h)
      (λ same. let e : slice_index l.lo d ≡ slice_index l.lo c = ap (slice_index l.lo) same in omega arith);
  counted = λ d h. low_set l.hi c (m - 1) d (slice_index k.count d) (o.counted d h)
      (λ same. let e : slice_index l.hi d ≡ slice_index l.hi c = ap (slice_index l.hi) same in
      omega (arith, o.counted d h));
}

pub ordered_from : (k : Classes) (l : Limits) (c m : ℕ) → AreInOrder k l → slice_index l.lo c < m → m ≤ slice_index l.hi c →
    AreInOrder k (limits_from l c m)
ordered_from k l c m o low high = record {
  order = λ d h. low_set l.lo c m d (slice_index l.hi d) (o.order d h)
      (λ same. let e : slice_index l.hi d ≡ slice_index l.hi c = ap (slice_index l.hi) same in omega arith);
  counted = o.counted;
}

pub ordered_narrowed : (k : Classes) (l : Limits) (w : Way) (b : ℕ) → AreInOrder k l → MayTake k l w → AreInOrder k (narrowed_limits k l w b)
ordered_narrowed k l (IdleIn slot) b o t = record { order = o.order; counted = o.counted }
ordered_narrowed k l (Early c) b o t = record {
  order = λ d h. low_set l.lo c (max (slice_index l.lo c) 1) d (slice_index l.hi d) (o.order d h)
      (λ same. let e : slice_index l.hi d ≡ slice_index l.hi c = ap (slice_index l.hi) same in
      omega (arith, o.order c t.0, t.1));
  counted = o.counted;
}
ordered_narrowed k l (Late c) b o t = record {
  order = λ d h. high_set l.hi c (min (slice_index l.hi c) (slice_index k.count c - 1)) d (slice_index l.lo d) (o.order d h)
      (λ same. let e : slice_index l.lo d ≡ slice_index l.lo c = ap (slice_index l.lo) same in
      omega (arith, o.order c t.0, t.1));
  counted = λ d h. low_set l.hi c (min (slice_index l.hi c) (slice_index k.count c - 1)) d (slice_index k.count d) (o.counted d h)
      (λ same. let e : slice_index k.count d ≡ slice_index k.count c = ap (slice_index k.count) same in
      omega (arith, o.counted c t.0));
}

pub across_allowed : (k : Classes) (l : Limits) (set : ℕ) → AllByRecursion (MayTake k l) (ways_across k l set)
across_allowed k l set = recursion_from_All (MayTake k l) (ways_across k l set) (ways_allowed k l set)

pub closing_allowed : (k : Classes) (end : End) (l : Limits) → AllByRecursion (MayTake k l) (ways_to_close k end l)
unfolding ways_to_close
closing_allowed k ends.Open l = tt
closing_allowed k ends.Closed l =
    let late : All (MayTake k l) (cond (nat_lt (slice_index l.lo 135) (slice_index k.count 135)) (Late 135 ∷ []) []) =
    All-one_or_none (MayTake k l) (nat_lt (slice_index l.lo 135) (slice_index k.count 135)) (Late 135)
    (λ free. (omega arith, ltb-true (slice_index l.lo 135) (slice_index k.count 135) free)) in
    recursion_from_All (MayTake k l) (ways_to_close k ends.Closed l) (All-cons (MayTake k l) (IdleIn 15) _ (omega arith) late)
closing_allowed k ends.Idle l = (omega arith, tt)
