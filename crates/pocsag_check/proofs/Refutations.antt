-- An accepted node is met by no tour.
use Rattle.pocsag_check.proofs.Prelude.{◌≡◌, ℕ, ◌+◌, ◌-◌, ◌<◌, ◌≤◌, List, [], ◌∷◌, ap, arith, slice_index, ◌⊎◌, min, cases_lt, cases_eq, Classes, Limits, Way, IsAdmitted, load, narrowed_limits, limits_below, limits_from, slice_set, max, get_or-set_same, get_or-set_other, set_past, IdleIn, Early, Late, Overloads}
use Rattle.pocsag_slots.proofs.SumLemmas.{sum_over-le}

-- what is at least n stays so where one place is changed to what is
pub low_set : (xs : List ℕ) (c v d n : ℕ) → slice_index xs d ≤ n → (d ≡ c → v ≤ n) → slice_index (slice_set xs c v) d ≤ n
low_set xs c v d n h here = grind (arith, cases_eq, get_or-set_other, cases_lt, get_or-set_same, set_past)

pub high_set : (xs : List ℕ) (c v d n : ℕ) → n ≤ slice_index xs d → (d ≡ c → n ≤ v) → n ≤ slice_index (slice_set xs c v) d
high_set xs c v d n h here = grind (arith, cases_eq, get_or-set_other, cases_lt, get_or-set_same, set_past)

-- loads within the caps are so in sum
pub not_overloaded : (k : Classes) (l : Limits) (choice : ℕ → ℕ) (set : ℕ) → IsAdmitted k l choice → Overloads k l set → ⊥
not_overloaded k l choice set admitted over = grind (arith, sum_over-le)

pub admitted_below : (k : Classes) (l : Limits) (choice : ℕ → ℕ) (c m : ℕ) → IsAdmitted k l choice → choice c < m →
    IsAdmitted k (limits_below l c m) choice
admitted_below k l choice c m a h = record {
  within = record {
    least = a.within.least;
    most = λ d small. high_set l.hi c (m - 1) d (choice d) (a.within.most d small)
        (λ same. let e : choice d ≡ choice c = ap choice same in omega arith);
  };
  capped = a.capped;
}

pub admitted_from : (k : Classes) (l : Limits) (choice : ℕ → ℕ) (c m : ℕ) → IsAdmitted k l choice → m ≤ choice c →
    IsAdmitted k (limits_from l c m) choice
admitted_from k l choice c m a h = record {
  within = record {
    least = λ d small. low_set l.lo c m d (choice d) (a.within.least d small)
        (λ same. let e : choice d ≡ choice c = ap choice same in omega arith);
    most = a.within.most;
  };
  capped = a.capped;
}

-- the choice, or the tour, takes the way
abbrev pub Takes : Classes → (ℕ → ℕ) → ℕ → Way → Type 0
Takes k choice b (IdleIn slot) = (slot < 16) × (load k choice slot + 1 ≤ b)
Takes k choice b (Early c) = (c < 136) × (1 ≤ choice c)
Takes k choice b (Late c) = (c < 136) × (choice c + 1 ≤ slice_index k.count c)

abbrev pub AnyTaken : Classes → (ℕ → ℕ) → ℕ → List Way → Type 0
AnyTaken k choice b [] = ⊥
AnyTaken k choice b (w ∷ ws) = Takes k choice b w ⊎ AnyTaken k choice b ws

pub admitted_narrowed : (k : Classes) (l : Limits) (choice : ℕ → ℕ) (b : ℕ) (w : Way) → IsAdmitted k l choice → Takes k choice b w →
    IsAdmitted k (narrowed_limits k l w b) choice
admitted_narrowed k l choice b (IdleIn slot) a t = record {
  within = record { least = a.within.least; most = a.within.most };
  capped = λ s small.
      let most : load k choice s ≤ slice_index l.cap s = a.capped s small in
      high_set l.cap slot (min (slice_index l.cap slot) (b - 1)) s (load k choice s) most
      (λ same. let e : load k choice s ≡ load k choice slot = ap (load k choice) same in
      let f : slice_index l.cap s ≡ slice_index l.cap slot = ap (slice_index l.cap) same in omega arith);
}
admitted_narrowed k l choice b (Early c) a t = record {
  within = record {
    least = λ d small.
        let low : slice_index l.lo d ≤ choice d = a.within.least d small in
        low_set l.lo c (max (slice_index l.lo c) 1) d (choice d) low
        (λ same. let e : choice d ≡ choice c = ap choice same in
        let f : slice_index l.lo d ≡ slice_index l.lo c = ap (slice_index l.lo) same in omega arith);
    most = a.within.most;
  };
  capped = a.capped;
}
admitted_narrowed k l choice b (Late c) a t = record {
  within = record {
    least = a.within.least;
    most = λ d small.
        let high : choice d ≤ slice_index l.hi d = a.within.most d small in
        high_set l.hi c (min (slice_index l.hi c) (slice_index k.count c - 1)) d (choice d) high
        (λ same. let e : choice d ≡ choice c = ap choice same in
        let f : slice_index l.hi d ≡ slice_index l.hi c = ap (slice_index l.hi) same in omega arith);
  };
  capped = a.capped;
}
