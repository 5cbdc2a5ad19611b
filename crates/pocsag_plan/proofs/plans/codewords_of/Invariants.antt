use Rattle.pocsag_plan.proofs.Prelude.{◌≡◌, ◌*◌, ◌≤◌, sum_by, take, page_length}
use Rattle.pocsag_plan.proofs.plans.codewords_of.Given as goal

abbrev pub invariant-loop-page : goal.invariant-loop-page
invariant-loop-page l = (l.total ≡ sum_by page_length (take l.page-index l.round)) × (l.total ≤ 1401 * l.page-index)
