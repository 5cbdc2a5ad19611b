use Rattle.pocsag_pages.proofs.Prelude.{◌≡◌, ◌++◌, ◌≤◌, drop, length, firsts, firsts_after}
use Rattle.pocsag_pages.proofs.queue.first_pages.Given as goal

-- the pages so far, and the first pages of the other addresses
abbrev pub invariant-loop-page : goal.invariant-loop-page
invariant-loop-page l = record {
  few : length l.builder ≤ l.page-index;
  rest : firsts l.queue ≡ l.builder ++ firsts_after l.builder (drop l.page-index l.queue);
}
