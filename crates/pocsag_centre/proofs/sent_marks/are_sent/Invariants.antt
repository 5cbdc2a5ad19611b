use Rattle.pocsag_centre.proofs.Prelude.{◌≡◌, List, length, Page, ReadsAs}
use Rattle.pocsag_centre.proofs.SentMarks.{AreCompared}
use Rattle.pocsag_centre.proofs.sent_marks.are_sent.Given as goal

abbrev pub invariant-pages : goal.invariant-pages
invariant-pages l = record {
  as_many : length l.marks.items ≡ length l.round;
  compared : (sent : List Page) → ReadsAs l.bytes sent → AreCompared l.round sent l.next l.reader l._compared l.marks.items;
}
