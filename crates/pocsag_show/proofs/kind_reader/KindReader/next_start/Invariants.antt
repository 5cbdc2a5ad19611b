use Rattle.pocsag_show.proofs.Prelude.{◌≡◌, length, kinds_ahead, starts_ahead}
use Rattle.pocsag_show.proofs.kind_reader.KindReader.next_start.Given as goal

abbrev pub invariant-loop-kind : goal.invariant-loop-kind
invariant-loop-kind l = starts_ahead l.self ≡ starts_ahead l.fn.self

abbrev pub decreases-loop-kind : goal.decreases-loop-kind
decreases-loop-kind l = length (kinds_ahead l.self)
