use Rattle.pocsag_pages.proofs.Prelude.{◌≡◌, ◌-◌, ◌≤◌, length, All, None, page_fault_of, page_limit, pages_of_rows, true}
use Rattle.pocsag_pages.proofs.Judgements.{grown}
use Rattle.pocsag_pages.proofs.file.queue_rows.Given as goal

-- the queue is that of the pages so far and of the records that are left
abbrev pub invariant-loop-row : goal.invariant-loop-row
invariant-loop-row l = record {
  few : length l.pages.items ≤ page_limit;
  each : All (λ p. page_fault_of p ≡ None) l.pages.items;
  rest : pages_of_rows true l.fn.reader ≡ grown true l.pages.items (length l.pages.items) l.reader;
}

abbrev pub decreases-loop-row : goal.decreases-loop-row
decreases-loop-row l = page_limit - length l.pages.items
