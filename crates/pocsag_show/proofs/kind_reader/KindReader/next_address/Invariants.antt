use Rattle.pocsag_show.proofs.Prelude.{◌≡◌, length, addresses_ahead, kinds_ahead}
use Rattle.pocsag_show.proofs.kind_reader.KindReader.next_address.Given as goal

abbrev pub invariant-loop-kind : goal.invariant-loop-kind
invariant-loop-kind l = addresses_ahead l.self ≡ addresses_ahead l.fn.self

abbrev pub decreases-loop-kind : goal.decreases-loop-kind
decreases-loop-kind l = length (kinds_ahead l.self)
