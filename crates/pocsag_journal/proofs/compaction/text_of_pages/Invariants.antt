use Rattle.pocsag_journal.proofs.Prelude.{◌≡◌, take, ListsPages}
use Rattle.pocsag_journal.proofs.compaction.text_of_pages.Given as goal

-- the text so far lists the pages so far
abbrev pub invariant-loop-index : goal.invariant-loop-index
invariant-loop-index l = ListsPages l.text.items l.book × (l.book ≡ take l.index l.pages)
