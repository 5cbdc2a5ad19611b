use Rattle.pocsag_decode.proofs.Prelude.{◌≡◌, ◌<◌, ◌≤◌, ◌++◌, drop, length, IsReady, text_in, rows_of_pages, listing}
use Rattle.pocsag_decode.proofs.lister.put_all.Given as goal

abbrev pub invariant-loop-page : goal.invariant-loop-page
invariant-loop-page g l = record {
  ready : IsReady l.records;
  some : 0 < length (text_in l.records);
  told : g.S.Sink.is_known → g.S.Sink.taken l.fn.sink ++ listing l.fn.pages.items
      ≡ g.S.Sink.taken l.sink ++ (text_in l.records ++ rows_of_pages (drop (length l.yielded) l.fn.pages.items));
  grown : g.S.Sink.is_known → length (g.S.Sink.taken l.fn.sink) ≤ length (g.S.Sink.taken l.sink);
  failures : g.S.Sink.failures l.sink ≡ g.S.Sink.failures l.fn.sink;
}
