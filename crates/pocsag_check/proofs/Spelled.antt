-- An accepted tree can be written: each of its fields is in the range of versions PCB2 and PCB4.
use Rattle.pocsag_check.proofs.Prelude.{◌≡◌, ℕ, ◌-◌, ◌<◌, ◌≤◌, Bool, false, List, [], ◌∷◌, length, nat_lt, refl, ap, arith, min, slice_index, End, BoundTree, BoundTrees, overload, split, cut, close, unexamined, none, more, children_count, Classes, Limits, Way, limits_of_all, AsksForLast, limits_below, limits_from, narrowed_limits, ways_across, ways_to_close, Accepts, AcceptsEach, IsAccepted, ◌^◌, all_nodes, all_nodes_in, closed_nodes, closed_nodes_in, IdleIn, Early, Late}
use Rattle.pocsag_words.specs.declared.ending.End.TheVariants as ends
use Rattle.pocsag_tree.specs.Limits.{most_nodes, second_ranges}
use Rattle.pocsag_tree.specs.CertificateText.{AreInRange, HasText, IsInRange}
use Rattle.pocsag_slots.proofs.LoadLemmas.{count_few}
use Rattle.pocsag_slots.proofs.Members.{held_some}
use Rattle.pocsag_slots.proofs.WayLemmas.{classes_few, one_or_none}
use Rattle.pocsag_check.proofs.Refutations.{low_set}
use Rattle.pocsag_check.proofs.RowChecks.{row_long}
use Rattle.pocsag_check.proofs.Rims.{two_ways}

-- no more pages may start early than there are
record AreCounted (k : Classes) (l : Limits) : Type 0 where
  most : (c : ℕ) → c < 136 → slice_index l.hi c ≤ slice_index k.count c

all_counted : (k : Classes) (batches : ℕ) → AreCounted k (limits_of_all k batches)
all_counted k batches = record { most = λ c h. omega arith }

below_counted : (k : Classes) (l : Limits) (c m : ℕ) → m ≤ slice_index l.hi c → AreCounted k l → AreCounted k (limits_below l c m)
below_counted k l c m within of = record {
  most = λ d h. low_set l.hi c (m - 1) d (slice_index k.count d) (of.most d h)
      (λ same. let e : slice_index l.hi d ≡ slice_index l.hi c = ap (slice_index l.hi) same in omega (arith, of.most d h));
}

from_counted : (k : Classes) (l : Limits) (c m : ℕ) → AreCounted k l → AreCounted k (limits_from l c m)
from_counted k l c m of = record { most = of.most }

way_counted : (k : Classes) (l : Limits) (w : Way) (b : ℕ) → AreCounted k l → AreCounted k (narrowed_limits k l w b)
way_counted k l (IdleIn slot) b of = record { most = of.most }
way_counted k l (Early c) b of = record { most = of.most }
way_counted k l (Late c) b of = record {
  most = λ d h. low_set l.hi c (min (slice_index l.hi c) (slice_index k.count c - 1)) d (slice_index k.count d) (of.most d h)
      (λ same. let e : slice_index l.hi d ≡ slice_index l.hi c = ap (slice_index l.hi) same in omega (arith, of.most d h));
}

few_ways : (k : Classes) (l : Limits) (set : ℕ) → length (ways_across k l set) ≤ 288
unfolding ways_across
few_ways k l set = classes_few k l set 136 (ways_across k l set) refl

few_endings : (k : Classes) (end : End) (l : Limits) → length (ways_to_close k end l) ≤ 2
unfolding ways_to_close
few_endings k ends.Open l = omega arith
few_endings k ends.Closed l = omega (arith, one_or_none (nat_lt (slice_index l.lo 135) (slice_index k.count 135)) (Late 135))
few_endings k ends.Idle l = omega arith

some_ending : (k : Classes) (end : End) (l : Limits) → AsksForLast end → 1 ≤ length (ways_to_close k end l)
unfolding ways_to_close
some_ending k ends.Open l asks = absurd asks
some_ending k ends.Closed l asks = omega arith
some_ending k ends.Idle l asks = omega arith

mutual
  in_range : (t : BoundTree) (u : Bool) (k : Classes) (end : End) (b : ℕ) (l : Limits) → AreCounted k l → Accepts u k end b l t →
      IsInRange second_ranges t
  in_range (overload set) u k end b l of a = a.0
  in_range (split c m below above) u k end b l of a = (
    omega (arith, a.0),
    omega (arith, a.1),
    omega (arith, a.2, of.most c a.0, count_few k c a.0),
    in_range below u k end b (limits_below l c m) (below_counted k l c m a.2 of) a.3,
    in_range above u k end b (limits_from l c m) (from_counted k l c m of) a.4,
  )
  in_range (cut set c children) u k end b l of a =
      let long : length (ways_across k l set) ≡ children_count children = row_long u k end b l (ways_across k l set) children a.5 in (
        (held_some set 0 a.2, a.4),
        omega (arith, a.0),
        omega (arith, long, two_ways k l set c a.0 a.2 a.3),
        omega (arith, long, few_ways k l set),
        each_in_range children u k end b l (ways_across k l set) of a.5,
      )
  in_range (close children) u k end b l of a =
      let long : length (ways_to_close k end l) ≡ children_count children = row_long u k end b l (ways_to_close k end l) children a.2 in (
        omega arith,
        omega (arith, long, some_ending k end l a.0),
        omega (arith, long, few_endings k end l),
        each_in_range children u k end b l (ways_to_close k end l) of a.2,
      )
  in_range unexamined u k end b l of a = tt

  each_in_range : (ts : BoundTrees) (u : Bool) (k : Classes) (end : End) (b : ℕ) (l : Limits) (ws : List Way) → AreCounted k l →
      AcceptsEach u k end b l ws ts → AreInRange second_ranges ts
  each_in_range none u k end b l ws of a = tt
  each_in_range (more t ts) u k end b l [] of a = absurd a
  each_in_range (more t ts) u k end b l (w ∷ ws) of a =
      (in_range t u k end b (narrowed_limits k l w b) (way_counted k l w b of) a.0, each_in_range ts u k end b l ws of a.1)

pub accepted_text : (u : Bool) (k : Classes) (end : End) (batches : ℕ) (t : BoundTree) → IsAccepted u k end batches t → batches < 2 ^ 32 →
    all_nodes t ≤ most_nodes → HasText second_ranges batches t
accepted_text u k end batches t accepted small few = record {
  some_batch = accepted.some;
  four_bytes = small;
  in_range = in_range t u k end (batches - 1) (limits_of_all k (batches - 1)) (all_counted k (batches - 1)) accepted.root;
  depth = accepted.shallow;
  nodes = few;
}

mutual
  all_closed : (t : BoundTree) (k : Classes) (end : End) (b : ℕ) (l : Limits) → Accepts false k end b l t → all_nodes t ≡ closed_nodes t
  all_closed (overload set) k end b l a = refl
  all_closed (split c m below above) k end b l a =
      omega (arith, all_closed below k end b (limits_below l c m) a.3, all_closed above k end b (limits_from l c m) a.4)
  all_closed (cut set c children) k end b l a = omega (arith, each_closed children k end b l (ways_across k l set) a.5)
  all_closed (close children) k end b l a = omega (arith, each_closed children k end b l (ways_to_close k end l) a.2)
  all_closed unexamined k end b l a = absurd (cc a)

  each_closed : (ts : BoundTrees) (k : Classes) (end : End) (b : ℕ) (l : Limits) (ws : List Way) → AcceptsEach false k end b l ws ts →
      all_nodes_in ts ≡ closed_nodes_in ts
  each_closed none k end b l ws a = refl
  each_closed (more t ts) k end b l [] a = absurd a
  each_closed (more t ts) k end b l (w ∷ ws) a =
      omega (arith, all_closed t k end b (narrowed_limits k l w b) a.0, each_closed ts k end b l ws a.1)

pub accepted_closed : (k : Classes) (end : End) (batches : ℕ) (t : BoundTree) → IsAccepted false k end batches t → all_nodes t ≡ closed_nodes t
accepted_closed k end batches t accepted = all_closed t k end (batches - 1) (limits_of_all k (batches - 1)) accepted.root
