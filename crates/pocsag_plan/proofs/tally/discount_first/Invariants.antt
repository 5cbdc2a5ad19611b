use Rattle.pocsag_plan.proofs.Prelude.{drop, AreClassesOf}
use Rattle.pocsag_plan.proofs.tally.discount_first.Given as goal

abbrev pub invariant-loop-page : goal.invariant-loop-page
invariant-loop-page l = AreClassesOf l.classes l.end (drop l.page-index l.pages)
