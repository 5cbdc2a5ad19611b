-- Which ways and splits settle a question that the limits of a node leave open.
use Rattle.pocsag_branch.proofs.Prelude.{◌≡◌, ◌≢◌, ℕ, ◌+◌, ◌-◌, ◌<◌, ◌≤◌, min, max, length, sym, ap, arith, slice_index, slice_set, get_or-set_same, get_or-set_other, nat_tests, Classes, Limits, Way, IdleIn, Early, Late, sum_below, MayTake, sum_below-bump, IsUndecidedWay, AreNodeLimits, Falls, IsSplitPoint, class_left, slot_left, undecided}

sum_below-fall : (n k : ℕ) (f g : ℕ → ℕ) → k < n → g k < f k → ((j : ℕ) → j < n → j ≢ k → g j ≡ f j) → sum_below n g < sum_below n f
sum_below-fall n k f g h less others =
    let more : sum_below n f ≡ sum_below n g + (f k - g k) =
    sum_below-bump n k (f k - g k) g f h (omega arith) (λ j l ne. sym (others j l ne)) in
    omega arith

-- one number changes
module _ (k : Classes) (batches : ℕ) (l : Limits) where
  lo_falls : (c v : ℕ) → c < 136 → length l.lo ≡ 136 →
      class_left v (slice_index l.hi c) (slice_index k.count c) < class_left (slice_index l.lo c) (slice_index l.hi c)
      (slice_index k.count c) →
      undecided k batches (record l { lo = slice_set l.lo c v }) < undecided k batches l
  unfolding undecided
  lo_falls c v h long less =
      let here : c < length l.lo = omega arith in
      let before : ℕ → ℕ = λ d. class_left (slice_index l.lo d) (slice_index l.hi d) (slice_index k.count d) in
      let after : ℕ → ℕ = λ d. class_left (slice_index (slice_set l.lo c v) d) (slice_index l.hi d) (slice_index k.count d) in
      let falls : sum_below 136 after < sum_below 136 before =
      sum_below-fall 136 c before after h (rw (get_or-set_same l.lo c v 0 here) less)
      (λ d m ne. ap (λ (x : ℕ). class_left x (slice_index l.hi d) (slice_index k.count d)) (get_or-set_other l.lo c d v 0 ne)) in
      omega arith

  hi_falls : (c v : ℕ) → c < 136 → length l.hi ≡ 136 →
      class_left (slice_index l.lo c) v (slice_index k.count c) < class_left (slice_index l.lo c) (slice_index l.hi c)
      (slice_index k.count c) →
      undecided k batches (record l { hi = slice_set l.hi c v }) < undecided k batches l
  unfolding undecided
  hi_falls c v h long less =
      let here : c < length l.hi = omega arith in
      let before : ℕ → ℕ = λ d. class_left (slice_index l.lo d) (slice_index l.hi d) (slice_index k.count d) in
      let after : ℕ → ℕ = λ d. class_left (slice_index l.lo d) (slice_index (slice_set l.hi c v) d) (slice_index k.count d) in
      let falls : sum_below 136 after < sum_below 136 before =
      sum_below-fall 136 c before after h (rw (get_or-set_same l.hi c v 0 here) less)
      (λ d m ne. ap (λ (x : ℕ). class_left (slice_index l.lo d) x (slice_index k.count d)) (get_or-set_other l.hi c d v 0 ne)) in
      omega arith

  cap_falls : (slot v : ℕ) → slot < 16 → length l.cap ≡ 16 →
      slot_left batches v < slot_left batches (slice_index l.cap slot) →
      undecided k batches (record l { cap = slice_set l.cap slot v }) < undecided k batches l
  unfolding undecided
  cap_falls slot v h long less =
      let here : slot < length l.cap = omega arith in
      let before : ℕ → ℕ = λ i. slot_left batches (slice_index l.cap i) in
      let after : ℕ → ℕ = λ i. slot_left batches (slice_index (slice_set l.cap slot v) i) in
      let falls : sum_below 16 after < sum_below 16 before =
      sum_below-fall 16 slot before after h (rw (get_or-set_same l.cap slot v 0 here) less)
      (λ i m ne. ap (λ (x : ℕ). slot_left batches x) (get_or-set_other l.cap slot i v 0 ne)) in
      omega arith

-- the questions of one class and of one slot
early_settled : (lo hi count : ℕ) → lo ≡ 0 → 0 < hi → class_left 1 hi count < class_left lo hi count
unfolding class_left
early_settled lo hi count none some = grind (arith, nat_tests)

late_settled : (lo hi count : ℕ) → count ≤ hi → lo < count → class_left lo (count - 1) count < class_left lo hi count
unfolding class_left
late_settled lo hi count all some = grind (arith, nat_tests)

none_settled : (lo hi count : ℕ) → lo ≡ 0 → 0 < hi → class_left lo 0 count < class_left lo hi count
unfolding class_left
none_settled lo hi count none some = grind (arith, nat_tests)

all_settled : (lo hi count : ℕ) → count ≤ hi → lo < count → class_left count hi count < class_left lo hi count
unfolding class_left
all_settled lo hi count all some = grind (arith, nat_tests)

slot_settled : (batches cap : ℕ) → 0 < batches → batches ≤ cap → slot_left batches (batches - 1) < slot_left batches cap
unfolding slot_left
slot_settled batches cap some high = grind (arith, nat_tests)

module _ (k : Classes) (batches : ℕ) (l : Limits) (limits : AreNodeLimits k batches l) where
  pub idle_falls : (slot : ℕ) → 0 < batches → slot < 16 → batches ≤ slice_index l.cap slot → Falls k batches l (IdleIn slot)
  idle_falls slot some h high =
      let less : min (slice_index l.cap slot) (batches - 1) ≡ batches - 1 = omega arith in
      cap_falls k batches l slot (min (slice_index l.cap slot) (batches - 1)) h limits.cap_long
      (rw less (slot_settled batches (slice_index l.cap slot) some high))

  pub early_falls : (c : ℕ) → c < 136 → slice_index l.lo c ≡ 0 → 0 < slice_index l.hi c → Falls k batches l (Early c)
  early_falls c h none some =
      let one : max (slice_index l.lo c) 1 ≡ 1 = omega arith in
      lo_falls k batches l c (max (slice_index l.lo c) 1) h limits.lo_long
      (rw one (early_settled (slice_index l.lo c) (slice_index l.hi c) (slice_index k.count c) none some))

  pub late_falls : (c : ℕ) → c < 136 → slice_index k.count c ≤ slice_index l.hi c → slice_index l.lo c < slice_index k.count c →
      Falls k batches l (Late c)
  late_falls c h all some =
      let less : min (slice_index l.hi c) (slice_index k.count c - 1) ≡ slice_index k.count c - 1 = omega arith in
      hi_falls k batches l c (min (slice_index l.hi c) (slice_index k.count c - 1)) h limits.hi_long
      (rw less (late_settled (slice_index l.lo c) (slice_index l.hi c) (slice_index k.count c) all some))

  pub splits_at_one : (c : ℕ) → c < 136 → slice_index l.lo c ≡ 0 → 0 < slice_index l.hi c → IsSplitPoint k batches l c 1
  splits_at_one c h none some =
      record {
        class = h;
        above = omega arith;
        within = omega arith;
        below_falls = hi_falls k batches l c 0 h limits.hi_long
            (none_settled (slice_index l.lo c) (slice_index l.hi c) (slice_index k.count c) none some);
        from_falls = lo_falls k batches l c 1 h limits.lo_long
            (early_settled (slice_index l.lo c) (slice_index l.hi c) (slice_index k.count c) none some);
      }

  pub splits_at_count : (c : ℕ) → c < 136 → slice_index k.count c ≤ slice_index l.hi c → slice_index l.lo c < slice_index k.count c →
      IsSplitPoint k batches l c (slice_index k.count c)
  splits_at_count c h all some =
      record {
        class = h;
        above = some;
        within = all;
        below_falls = hi_falls k batches l c (slice_index k.count c - 1) h limits.hi_long
            (late_settled (slice_index l.lo c) (slice_index l.hi c) (slice_index k.count c) all some);
        from_falls = lo_falls k batches l c (slice_index k.count c) h limits.lo_long
            (all_settled (slice_index l.lo c) (slice_index l.hi c) (slice_index k.count c) all some);
      }

-- a way that is undecided settles a question
pub undecided_falls : (k : Classes) (b : ℕ) (l : Limits) (w : Way) → 0 < b → AreNodeLimits k b l → MayTake k l w → IsUndecidedWay k b l w → Falls k b l w
undecided_falls k b l (IdleIn slot) some limits may free = idle_falls k b l limits slot some may free
undecided_falls k b l (Early c) some limits may free = early_falls k b l limits c may.0 free may.1
undecided_falls k b l (Late c) some limits may free = late_falls k b l limits c may.0 free may.1
