use Rattle.pocsag_decode.proofs.Prelude.{◌≡◌, pages_left}
use Rattle.pocsag_decode.proofs.page_reader.PageReaderPageSource.next_page.Given as goal

abbrev pub invariant-loop-place : goal.invariant-loop-place
invariant-loop-place l = record {
  words : l.self.words ≡ l.initial.self.words;
  at : l.self.place ≡ l.place;
  left : pages_left l.self ≡ pages_left l.initial.self;
}
