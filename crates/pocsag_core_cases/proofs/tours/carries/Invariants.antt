use Rattle.std.proofs.Common.{◌≤◌, ◌<◌, ℕ}
use Rattle.std.specs.Prelude.{slice_index}
use Rattle.pocsag_core_cases.proofs.tours.carries.Given as goal

abbrev pub invariant-loop-load : goal.invariant-loop-load
invariant-loop-load l = (s : ℕ) → s < l.load-index → slice_index l.load-items s ≤ l.batches
