use Rattle.pocsag_words.proofs.Prelude.{◌≡◌, ◌+◌, ◌≤◌, ◌++◌, length}
use Rattle.pocsag_words.proofs.device.write_all.Given as goal

-- what was taken so far, and what is left, are what is due, and a byte was taken by each call
abbrev pub invariant-loop-rest : goal.invariant-loop-rest
invariant-loop-rest g l =
    (g.S.Sink.is_known → length (g.S.Sink.taken l.fn.sink) ≤ length (g.S.Sink.taken l.sink))
    × (g.S.Sink.is_known → g.S.Sink.taken l.sink ++ l.rest ≡ g.S.Sink.taken l.fn.sink ++ l.bytes)
    × (g.S.Sink.calls l.sink + length l.rest ≤ g.S.Sink.calls l.fn.sink + length l.bytes)
    × (g.S.Sink.failures l.sink ≡ g.S.Sink.failures l.fn.sink)

abbrev pub decreases-loop-rest : goal.decreases-loop-rest
decreases-loop-rest g l = length l.rest
