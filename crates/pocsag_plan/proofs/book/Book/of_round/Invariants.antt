use Rattle.pocsag_plan.proofs.Prelude.{◌≡◌, take}
use Rattle.pocsag_plan.proofs.book.Book.of_round.Given as goal

abbrev pub invariant-loop-page : goal.invariant-loop-page
invariant-loop-page l = l.book ≡ take l.page-index l.page-items
