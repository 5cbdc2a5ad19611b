use Rattle.pocsag_wav.proofs.Prelude.{◌≡◌, ◌≤◌, ◌++◌, length, flat_map, sample_bytes, samples_of}
use Rattle.pocsag_wav.proofs.wav.put_samples.Given as goal

abbrev pub invariant-loop-index : goal.invariant-loop-index
invariant-loop-index g l = record {
  told : g.O.Sink.is_known → g.O.Sink.taken l.out ++ l.piece.items
      ≡ g.O.Sink.taken l.fn.out ++ flat_map sample_bytes (samples_of l.keying l.keyed l.index);
  grown : g.O.Sink.is_known → length (g.O.Sink.taken l.fn.out) ≤ length (g.O.Sink.taken l.out);
  failures : g.O.Sink.failures l.out ≡ g.O.Sink.failures l.fn.out;
}
