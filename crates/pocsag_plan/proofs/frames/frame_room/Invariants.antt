use Rattle.pocsag_plan.proofs.Prelude.{◌≡◌, ◌*◌, ◌≤◌, take, frame_codewords, frame_pages}
use Rattle.pocsag_plan.proofs.frames.frame_room.Given as goal

-- the counts are those of the pages so far, of which each has 1,401 codewords at most
abbrev pub invariant-loop-page : goal.invariant-loop-page
invariant-loop-page l = record {
  pages : l.count ≡ frame_pages l.frame (take l.page-index l.pages);
  few : l.count ≤ l.page-index;
  codewords : l.codewords ≡ frame_codewords l.frame (take l.page-index l.pages);
  small : l.codewords ≤ 1401 * l.page-index;
}
