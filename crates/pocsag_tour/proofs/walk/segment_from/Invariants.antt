use Rattle.pocsag_tour.proofs.Prelude.{◌≡◌, ℕ, ◌<◌, ◌≤◌, true, cond, length, slice_index, arc_from, holds, ◌*◌, ArePassed, IsPath, often}
use Rattle.pocsag_tour.proofs.walk.segment_from.Given as goal

abbrev pub invariant-arcs : goal.invariant-arcs
invariant-arcs l = record {
  long : length l.arcs.items ≡ l._place;
  path : IsPath (slice_index l.left) (slice_index l.exits) l.start l.arcs.items l.end;
  end : l.end < 16;
  once : (a : ℕ) → often a l.arcs.items ≤ cond (holds l.seen (arc_from a)) 1 0;
  enough : (a : ℕ) → l.times * often a l.arcs.items ≤ slice_index l.left a;
  some : 1 ≤ l.times;
  began : holds l.seen l.end ≡ true → 0 < l._place;
  passed : ArePassed (slice_index l.left) (slice_index l.exits) (slice_index l.kinds);
}
