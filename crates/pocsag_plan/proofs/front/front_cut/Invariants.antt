use Rattle.pocsag_plan.proofs.Prelude.{◌-◌, ◌≤◌, length, take, AreClassesOf, AreFrontBounds}
use Rattle.pocsag_plan.proofs.front.front_cut.Given as goal

abbrev pub invariant-loop-bounds : goal.invariant-loop-bounds
invariant-loop-bounds l = record {
  bounds : AreFrontBounds l.search l.pages l.batches l.bounds;
  among : l.counted ≤ length l.pages;
  counted : AreClassesOf l.classes l.search.end (take l.counted l.pages);
}

abbrev pub decreases-loop-bounds : goal.decreases-loop-bounds
decreases-loop-bounds l = l.bounds.beyond - l.bounds.fitting
