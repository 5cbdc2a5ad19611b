use Rattle.pocsag_shell.proofs.Prelude.{◌≡◌, ◌≤◌, ◌++◌, drop, length, map, numbered_text}
use Rattle.pocsag_shell.proofs.lines.print_numbers.Given as goal

abbrev pub invariant-loop-pair : goal.invariant-loop-pair
invariant-loop-pair g l =
    (g.S.Sink.is_known → g.S.Sink.taken l.sink ++ (l.line.bytes ++ numbered_text (map (λ pair. (pair.0.now, pair.1)) (drop l.pair-index l.numbers)) l.last)
    ≡ g.S.Sink.taken l.fn.sink ++ numbered_text (map (λ pair. (pair.0.now, pair.1)) l.numbers) l.last)
    × (g.S.Sink.is_known → length (g.S.Sink.taken l.fn.sink) ≤ length (g.S.Sink.taken l.sink))
    × (g.S.Sink.failures l.sink ≡ g.S.Sink.failures l.fn.sink)
