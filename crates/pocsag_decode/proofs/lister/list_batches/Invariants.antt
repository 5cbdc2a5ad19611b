use Rattle.pocsag_decode.proofs.Prelude.{◌≡◌, ◌<◌, ◌≤◌, ◌++◌, length, map, kind_of, unsynced, words_of, pages_from, text_in, CanList, listing}
use Rattle.pocsag_decode.proofs.Listings.{AreListed}
use Rattle.pocsag_decode.proofs.lister.list_batches.Given as goal

abbrev pub invariant-loop-i : goal.invariant-loop-i
invariant-loop-i g l = record {
  can : CanList l.lister;
  some : 0 < length (text_in l.lister.records);
  told : g.S.Sink.is_known
      → AreListed (g.S.Sink.taken l.fn.sink ++ listing (pages_from 0 (map kind_of (unsynced 0 (words_of l.bytes)))))
      (g.S.Sink.taken l.sink) l.lister l.i l.bytes;
  grown : g.S.Sink.is_known → length (g.S.Sink.taken l.fn.sink) ≤ length (g.S.Sink.taken l.sink);
  failures : g.S.Sink.failures l.sink ≡ g.S.Sink.failures l.fn.sink;
}
