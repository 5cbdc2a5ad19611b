use Rattle.pocsag_plan.proofs.Edits.{listable_pages}
use Rattle.pocsag_plan.proofs.book.Book.pages.Goals as goal

pub returns-clause-listable : goal.returns-clause-listable
returns-clause-listable c = listable_pages c.self.inside.pages.entries c.args.self.now c.self.view_is c.self.invariant.good
