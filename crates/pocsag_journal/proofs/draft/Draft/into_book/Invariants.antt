use Rattle.pocsag_journal.proofs.Prelude.{◌≡◌, ◌++◌, length}
use Rattle.pocsag_journal.proofs.draft.Draft.into_book.Given as goal

-- the book has the first pages, and the draft the others
abbrev pub invariant-loop-page : goal.invariant-loop-page
invariant-loop-page l = l.book ++ l.self ≡ l.fn.self

abbrev pub decreases-loop-page : goal.decreases-loop-page
decreases-loop-page l = length l.self
