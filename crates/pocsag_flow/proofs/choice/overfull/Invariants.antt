use Rattle.pocsag_flow.proofs.Prelude.{ℕ, ◌<◌, ◌≤◌, slice_index}
use Rattle.pocsag_flow.proofs.choice.overfull.Given as goal

abbrev pub invariant-loop-slot : goal.invariant-loop-slot
invariant-loop-slot l = (at : ℕ) → at < l.slot → slice_index l.counted at ≤ slice_index l.limits.cap at
