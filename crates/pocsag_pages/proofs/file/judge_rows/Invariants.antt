use Rattle.pocsag_pages.proofs.Prelude.{◌≡◌, ◌-◌, ◌≤◌, false, length, page_limit, pages_of_rows}
use Rattle.pocsag_pages.proofs.Judgements.{grown}
use Rattle.pocsag_pages.proofs.file.judge_rows.Given as goal

-- the round is that of the pages so far and of the records that are left
abbrev pub invariant-loop-row : goal.invariant-loop-row
invariant-loop-row l = record {
  even : length l.builder ≡ l.earlier;
  few : l.earlier ≤ page_limit;
  rest : pages_of_rows false l.fn.reader ≡ grown false l.builder l.earlier l.reader;
}

abbrev pub decreases-loop-row : goal.decreases-loop-row
decreases-loop-row l = page_limit - l.earlier
