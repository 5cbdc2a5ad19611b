use Rattle.pocsag_pages.proofs.Prelude.{◌≡◌, [], take, drop, IsRoundBuilder, first_page_fault}
use Rattle.pocsag_pages.proofs.list.judge_pages.Given as goal

-- the pages so far are a draft with these addresses, and the first fault is yet to come
abbrev pub invariant-loop-index : goal.invariant-loop-index
invariant-loop-index l = record {
  builder : IsRoundBuilder (take l.index l.pages) l.seen;
  rest : first_page_fault [] l.pages ≡ first_page_fault (take l.index l.pages) (drop l.index l.pages);
}
