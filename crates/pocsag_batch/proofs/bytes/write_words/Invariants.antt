use Rattle.pocsag_batch.proofs.Prelude.{◌≡◌, ◌+◌, ◌≤◌, ◌%◌, length, All, IsCodeword, bytes_of}
use Rattle.pocsag_batch.proofs.Sent.{IsSent}
use Rattle.pocsag_batch.proofs.bytes.write_words.Given as goal

-- what was taken and the piece are the transmission of the codewords that came
abbrev pub invariant-loop-word : goal.invariant-loop-word
invariant-loop-word g l =
    (goal.iterator-loop-word g).can_next l.word-iterator × (goal.iterator-loop-word g).is_finite l.word-iterator
    × IsSent g.S.Sink.is_known (g.S.Sink.taken l.fn.sink) (g.S.Sink.taken l.sink) l.piece l.yielded
    × (l.slot ≡ length l.yielded % 16) × All IsCodeword l.yielded × (g.S.Sink.calls l.sink + length l.piece ≤ g.S.Sink.calls l.fn.sink + length (bytes_of l.yielded))
    × (g.S.Sink.failures l.sink ≡ g.S.Sink.failures l.fn.sink)
