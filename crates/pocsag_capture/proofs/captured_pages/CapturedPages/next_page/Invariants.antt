use Rattle.pocsag_capture.proofs.Prelude.{◌≡◌, ◌≤◌, Bool, List, Page, AreLeft, CanRead, most_left, ReceptionStats}
use Rattle.pocsag_capture.proofs.captured_pages.CapturedPages.next_page.Given as goal

abbrev pub invariant-loop-self : goal.invariant-loop-self
invariant-loop-self l = record {
  can : CanRead l.self;
  reception : l.self.reception ≡ l.initial.self.reception;
  fewer : most_left l.self ≤ most_left l.initial.self;
  handed : (ps : List Page) (cuts : List Bool) (heard : ReceptionStats) → AreLeft l.self ps cuts heard → AreLeft l.initial.self ps cuts heard;
}

abbrev pub decreases-loop-self : goal.decreases-loop-self
decreases-loop-self l = most_left l.self
