use Rattle.pocsag_centre.proofs.Prelude.{◌≡◌, ◌++◌, take, flat_map, frame_text}
use Rattle.pocsag_centre.proofs.report.print_frames.Given as goal

abbrev pub invariant-loop-room : goal.invariant-loop-room
invariant-loop-room g l =
    (g.O.Sink.is_known → g.O.Sink.taken l.out ≡ g.O.Sink.taken l.initial.out ++ flat_map frame_text (take l.room-index l.rooms))
    × (g.O.Sink.failures l.out ≡ g.O.Sink.failures l.initial.out)
