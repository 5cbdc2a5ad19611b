use Rattle.pocsag_tour.proofs.Prelude.{◌≡◌, ℕ, ◌-◌, ◌<◌, true, length, slice_index, holds, ExitsLeadToRoot}
use Rattle.pocsag_tour.proofs.exits.exits_to.Given as goal

abbrev pub invariant-loop-arc : goal.invariant-loop-arc
invariant-loop-arc l = record {
  root : holds l.set l.root ≡ true;
  long : length l.arcs ≡ 16;
  known : (q : ℕ) → q < 16 → slice_index l.arcs q < 288;
  leads_to_root : ExitsLeadToRoot (slice_index l.counts) (slice_index l.arcs) l.root l.set;
}

abbrev pub decreases-loop-arc : goal.decreases-loop-arc
decreases-loop-arc l = 65536 - l.set
