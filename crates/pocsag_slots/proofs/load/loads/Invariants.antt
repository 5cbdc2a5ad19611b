use Rattle.pocsag_slots.proofs.Prelude.{◌≡◌, ℕ, ◌-◌, ◌<◌, length, slice_index, load}
use Rattle.pocsag_slots.proofs.load.loads.Given as goal

abbrev pub invariant-loop-slot : goal.invariant-loop-slot
invariant-loop-slot l = record {
  long : length l.found ≡ 16;
  loads : (s : ℕ) → s < l.slot → slice_index l.found s ≡ load l.classes (slice_index l.choice.early) s;
  last : l.load ≡ load l.classes (slice_index l.choice.early) (l.slot - 1);
}
